-- What keeps a side from going on, and the sides with a body in its place.
use Rattle.std.specs.Prelude.{◌≡◌, ℕ, zero, suc, ◌-◌, ◌≤◌, ◌<◌, List, [], ◌∷◌, length, Bool, true, false, Option, Some, None, Result, Ok, Err, if◌then◌else◌, slice_get, refl}
use Rattle.std.proofs.Common.{arith, ap, sym, ◌∙◌, subst}
use Rattle.std.proofs.lemmas.Bool.Decides.{nat_tests}
use Rattle.base_core.specs.declared.refusals.Stop.{Stop}
use Rattle.base_core.specs.declared.refusals.Stop.TheVariants.{Out}
use Rattle.base_core.specs.declared.refusals.Limit.TheVariants.{DepthLimit}
use Rattle.core_term.specs.Tree.{Tree, Constant, is_small, size_of, depth_of}
use Rattle.core_term.specs.Answers.{Gives}
use Rattle.core_term.specs.declared.stops.TermStop.{TermStop}
use Rattle.core_term.specs.declared.stops.TermStop.TheVariants as made
use Rattle.term_spine.specs.Spine.{head_of, arguments_of, apply_all, arguments_size, arguments_depth, are_small}
use Rattle.term_spine.specs.Arguments.{within_limits}
use Rattle.term_spine.specs.declared.spines.Spine.{Spine}
use Rattle.term_spine.specs.Spines.{tree_of_spine, IsSpineOf}
use Rattle.term_spine.proofs.SpineFacts.{size_applied, depth_applied, arguments_too_large}
use Rattle.cic_rules.specs.declared.context.Hyp.{Hyp}
use Rattle.cic_rules.specs.declared.decls.InductiveDecl.{InductiveDecl}
use Rattle.cic_rules.specs.declared.env.Slot.{Slot}
use Rattle.cic_rules.specs.declared.shapes.FamilyShape.{FamilyShape}
use Rattle.cic_rules.specs.Environments.{body_of_global, decl_at}
use Rattle.cic_rules.specs.Families.{Family, eliminator_of, major_premise, value_among, replace_major, major_index}
use Rattle.cic_rules.specs.Shapes.{shape_of, shape_if_any, shape_at}
use Rattle.cic_rules.specs.Convert.{Blocker, put_back, blocker_by, blocker_at}
use Rattle.cic_rules.specs.Reduce.{whnf_at}
use Rattle.cic_rules.specs.Runs.{Ran, Run, ◌>>=◌, and_then, pure}
use Rattle.conversion.specs.declared.blockers.Blocked.{Blocked}
use Rattle.conversion.specs.Lookups.{family_if_any}
use Rattle.conversion.specs.Turns.{IsSpine, IsOkAs, EndsAs}
use Rattle.conversion.specs.Blockers.{global_in, IsReplaced, IsReplacedBy, IsSmallIfAny, replaced_at, IsPutBack, IsBlocked, put_back_at}
use Rattle.conversion.proofs.ConvertLaws.{then_ok, then_err, head_told, args_told}

-- arguments with another one that can't be made
forbidden : (small : Bool) (args : List Tree) → Gives {A = List Tree} (Err made.TooLarge) (if small then Ok args else Err made.TooLarge) → small ≡ false
forbidden true args gives = absurd (cc)
forbidden false args gives = refl

pub more_stop : (stop : TermStop) (a : Tree) (more : List Tree) → Gives {A = List Tree} (Err stop) (within_limits more) →
    Gives {A = List Tree} (Err stop) (within_limits (a ∷ more))
more_stop made.NoMem a more gives = tt
more_stop made.TooLarge a more gives =
    let large = forbidden (are_small more) more gives in
    let whole : are_small (a ∷ more) ≡ false = grind (arith, nat_tests, large) in
    rw whole refl

pub replace_next : (args : List Tree) (a : Tree) (more : List Tree) (at : ℕ) (v : Tree) → args ≡ a ∷ more → (at ≡ 0 → ⊥) →
    replace_major args at v ≡ a ∷ replace_major more (at - 1) v
replace_next args a more zero v e some = absurd (some refl)
replace_next args a more (suc at) v e some = let less : suc at - 1 ≡ at = omega arith in rw (e, less) refl

pub spine_too_large : (h : Tree) (args : List Tree) → Gives {A = List Tree} (Err made.TooLarge) (within_limits args) → is_small (apply_all h args) ≡ false
spine_too_large h args gives = arguments_too_large h args (forbidden (are_small args) args gives)

-- what is too large makes what is put around it too large
major_size : (args : List Tree) (at : ℕ) (v : Tree) → at < length args → size_of v ≤ arguments_size (replace_major args at v)
major_size [] at v less = let none : ⊥ = omega (arith, less) in absurd none
major_size (a ∷ more) zero v less = omega arith
major_size (a ∷ more) (suc at) v less = let rest = major_size more at v (omega (arith, less)) in omega (arith, rest)

major_depth : (args : List Tree) (at : ℕ) (v : Tree) → at < length args → depth_of v ≤ arguments_depth (replace_major args at v)
major_depth [] at v less = let none : ⊥ = omega (arith, less) in absurd none
major_depth (a ∷ more) zero v less = omega arith
major_depth (a ∷ more) (suc at) v less = let rest = major_depth more at v (omega (arith, less)) in omega (arith, rest)

pub major_too_large : (s : Spine) (at : ℕ) (v : Tree) → at < length s.args → is_small v ≡ false → is_small (replaced_at s at v) ≡ false
major_too_large s at v less large =
    let size = major_size s.args at v less in
    let depth = major_depth s.args at v less in
    grind (arith, nat_tests, size_applied s.head (replace_major s.args at v), depth_applied s.head (replace_major s.args at v), size, depth, large)

pub put_back_large : (outer inner : Blocked) (s : Spine) (at : ℕ) → outer.place ≡ inner.place → inner.replaced ≡ None → outer.replaced ≡ None →
    at < length s.args → IsPutBack outer s at inner
put_back_large outer inner s at place none large less =
    record {
      place = place;
      replaced = λ t is. rw large (major_too_large s at t less (subst (λ r. IsReplaced r t) none is));
    }

pub put_back_made : (outer inner : Blocked) (s v : Spine) (at : ℕ) → outer.place ≡ inner.place → inner.replaced ≡ Some v →
    IsReplacedBy outer.replaced s at (tree_of_spine v) → IsPutBack outer s at inner
put_back_made outer inner s v at place some is =
    record {
      place = place;
      replaced = λ t of. let spine : IsSpineOf v t = subst (λ r. IsReplaced r t) some of in subst (λ u. IsReplacedBy outer.replaced s at u) spine.whole is;
    }

bind_by : {A B : Type 0} (answer : Result A Stop) (l : ℕ) (g h : A → Run B) → ((x : A) (m : ℕ) → g x m ≡ h x m) → and_then answer g l ≡ and_then answer h l
bind_by (Ok x) l g h same = same x l
bind_by (Err stop) l g h same = refl

bind_same : {A B : Type 0} (f : Run A) (g h : A → Run B) (l : ℕ) → ((x : A) (m : ℕ) → g x m ≡ h x m) → (f >>= g) l ≡ (f >>= h) l
bind_same f g h l same = bind_by (f l).answer (f l).left g h same

-- blockers, over the reduction of a major premise
module _ (env : List Slot) (head : Tree → Run Tree) where
  pub no_majors : (majors : ℕ) (t : Tree) (l : ℕ) → majors ≡ 0 → EndsAs IsBlocked (Err (Out DepthLimit)) l (blocker_at env head majors t l)
  unfolding blocker_at
  no_majors majors t l none = rw none (refl, refl)

  abbrev body_of_head : Tree → Option Tree
  body_of_head (Constant c) = body_of_global env c
  body_of_head t = None

  no_global_by : (inner : Tree → Run (Option Blocker)) (t h : Tree) (args : List Tree) → global_in h ≡ None →
      blocker_by env head inner t h (body_of_head h) (major_premise env h args) ≡ pure None
  no_global_by inner t (Constant c) args none = cc
  no_global_by inner t _ args none = refl

  pub no_global : (majors less : ℕ) (s : Spine) (l : ℕ) → majors ≡ suc less → IsSpine s → global_in s.head ≡ None →
      EndsAs IsBlocked (Ok None) l (blocker_at env head majors (tree_of_spine s) l)
  unfolding blocker_at
  no_global majors less s l some is none =
      let same = no_global_by (blocker_at env head less) (tree_of_spine s) (head_of (tree_of_spine s)) (arguments_of (tree_of_spine s)) (ap global_in (head_told s is) ∙ none) in
      rw some (subst (λ f. EndsAs IsBlocked (Ok None) l (f l)) (sym same) (tt, refl))

  abbrev global_blocker : ℕ → ℕ → Spine → Run (Option Blocker)
  global_blocker majors place s =
      blocker_by env head (blocker_at env head majors) (tree_of_spine s) (Constant place) (body_of_global env place) (major_premise env (Constant place) s.args)

  head_is : (h : Tree) (place : ℕ) → global_in h ≡ Some place → h ≡ Constant place
  head_is (Constant c) place e = cc
  head_is _ place e = cc

  pub is_constant : (h : Tree) (place : ℕ) → global_in h ≡ Some place → h ≡ Constant place
  is_constant h place e = head_is h place e

  pub global : (majors less place : ℕ) (s : Spine) (l k : ℕ) (result : Result (Option Blocked) Stop) → majors ≡ suc less → IsSpine s → global_in s.head ≡ Some place →
      EndsAs IsBlocked result k (global_blocker less place s l) → EndsAs IsBlocked result k (blocker_at env head majors (tree_of_spine s) l)
  unfolding blocker_at
  global majors less place s l k result some is e ends =
      let first : head_of (tree_of_spine s) ≡ Constant place = head_told s is ∙ head_is s.head place e in
      let args : arguments_of (tree_of_spine s) ≡ s.args = args_told s is in
      let moved : EndsAs IsBlocked result k (blocker_by env head (blocker_at env head less) (tree_of_spine s) (head_of (tree_of_spine s)) (body_of_head (head_of (tree_of_spine s)))
      (major_premise env (head_of (tree_of_spine s)) (arguments_of (tree_of_spine s))) l) = rw (first, args) ends in
      rw some moved

  -- a transparent definition
  pub unfolds : (majors place : ℕ) (s : Spine) (l : ℕ) (body : Tree) (made : Option Spine) → IsSpine s → body_of_global env place ≡ Some body →
      IsReplaced made (apply_all body s.args) → EndsAs IsBlocked (Ok (Some (record { place = place; replaced = made }))) l (global_blocker majors place s l)
  unfolds majors place s l body made is e replaced =
      let args : arguments_of (tree_of_spine s) ≡ s.args = args_told s is in
      rw (e, args) ((refl, replaced), refl)

  -- what waits for nothing
  none_by : (majors place : ℕ) (s : Spine) (l : ℕ) → body_of_global env place ≡ None → major_premise env (Constant place) s.args ≡ None →
      EndsAs IsBlocked (Ok None) l (global_blocker majors place s l)
  none_by majors place s l none major = rw (none, major) (tt, refl)

  pub no_family : (majors place : ℕ) (s : Spine) (l : ℕ) → body_of_global env place ≡ None → eliminator_of env (Constant place) ≡ None →
      EndsAs IsBlocked (Ok None) l (global_blocker majors place s l)
  no_family majors place s l none e = none_by majors place s l none (ap (value_among s.args) e)

  shape_by : (of : ℕ) (found : Option InductiveDecl) → decl_at env of ≡ found → shape_if_any of found ≡ None → family_if_any env (Some of) ≡ None
  shape_by of None e none = rw e refl
  shape_by of (Some d) e none = cc

  pub no_shape : (majors place of : ℕ) (s : Spine) (l : ℕ) → body_of_global env place ≡ None → eliminator_of env (Constant place) ≡ family_if_any env (Some of) →
      shape_at env of ≡ None → EndsAs IsBlocked (Ok None) l (global_blocker majors place s l)
  no_shape majors place of s l none e shape = no_family majors place s l none (e ∙ shape_by of (decl_at env of) refl shape)

  record IsFamily (place of : ℕ) (shape : FamilyShape) : Type 0 where
    family : Family
    found : eliminator_of env (Constant place) ≡ Some family
    major : major_index family.decl ≡ shape.major

  family_by : (place of : ℕ) (found : Option InductiveDecl) (shape : FamilyShape) → decl_at env of ≡ found → eliminator_of env (Constant place) ≡ family_if_any env (Some of) →
      shape_if_any of found ≡ Some shape → IsFamily place of shape
  family_by place of None shape d e is = cc
  family_by place of (Some decl) shape d e is =
      let same : shape_of of decl ≡ shape = cc in
      let family : family_if_any env (Some of) ≡ Some (record { place = of; decl = decl }) = rw d refl in
      record { family = record { place = of; decl = decl }; found = e ∙ family; major = ap (λ x. x.major) same }

  pub no_argument : (majors place of : ℕ) (s : Spine) (l : ℕ) (shape : FamilyShape) → body_of_global env place ≡ None →
      eliminator_of env (Constant place) ≡ family_if_any env (Some of) → shape_at env of ≡ Some shape → slice_get s.args shape.major ≡ None →
      EndsAs IsBlocked (Ok None) l (global_blocker majors place s l)
  no_argument majors place of s l shape none e is missing =
      let f = family_by place of (decl_at env of) shape refl e is in
      let there : slice_get s.args (major_index f.family.decl) ≡ None = ap (slice_get s.args) f.major ∙ missing in
      none_by majors place s l none (ap (value_among s.args) f.found ∙ there)

  abbrev major_blocker : ℕ → Spine → ℕ → Tree → Run (Option Blocker)
  major_blocker majors s at major = head major >>= λ value. blocker_at env head majors value >>= λ b. pure (put_back_at s at b)

  back_is : (s : Spine) (f : Family) (at : ℕ) (b : Option Blocker) → IsSpine s → major_index f.decl ≡ at → put_back (tree_of_spine s) (Some f) b ≡ put_back_at s at b
  back_is s f at None is e = refl
  back_is s f at (Some b) is e =
      let first : head_of (tree_of_spine s) ≡ s.head = head_told s is in
      let args : arguments_of (tree_of_spine s) ≡ s.args = args_told s is in
      rw (first, args, e) refl

  waits_by : (majors place at : ℕ) (s : Spine) (major : Tree) (f : Family) (l : ℕ) → IsSpine s → body_of_global env place ≡ None → eliminator_of env (Constant place) ≡ Some f →
      major_index f.decl ≡ at → slice_get s.args at ≡ Some major → global_blocker majors place s l ≡ major_blocker majors s at major l
  waits_by majors place at s major f l is none e index found =
      let there : slice_get s.args (major_index f.decl) ≡ Some major = ap (slice_get s.args) index ∙ found in
      let premise : major_premise env (Constant place) s.args ≡ Some major = ap (value_among s.args) e ∙ there in
      rw (none, premise)
      (bind_same (head major) (λ value. blocker_at env head majors value >>= λ b. pure (put_back (tree_of_spine s) (eliminator_of env (Constant place)) b))
      (λ value. blocker_at env head majors value >>= λ b. pure (put_back_at s at b)) l
      (λ value m. bind_same (blocker_at env head majors value) (λ b. pure (put_back (tree_of_spine s) (eliminator_of env (Constant place)) b)) (λ b. pure (put_back_at s at b)) m
      (λ b n. ap (λ back. pure back n) (ap (λ family. put_back (tree_of_spine s) family b) e ∙ back_is s f at b is index))))

  pub waits : (majors place of : ℕ) (s : Spine) (l k : ℕ) (shape : FamilyShape) (major : Tree) (result : Result (Option Blocked) Stop) → IsSpine s → body_of_global env place ≡ None →
      eliminator_of env (Constant place) ≡ family_if_any env (Some of) → shape_at env of ≡ Some shape → slice_get s.args shape.major ≡ Some major →
      EndsAs IsBlocked result k (major_blocker majors s shape.major major l) → EndsAs IsBlocked result k (global_blocker majors place s l)
  waits majors place of s l k shape major result is none e told found ends =
      let f = family_by place of (decl_at env of) shape refl e told in
      subst (λ r. EndsAs IsBlocked result k r) (sym (waits_by majors place shape.major s major f.family l is none f.found f.major found)) ends

pub argument_there : (args : List Tree) (at : ℕ) (t : Tree) → slice_get args at ≡ Some t → at < length args
argument_there [] at t e = cc
argument_there (a ∷ more) zero t e = omega arith
argument_there (a ∷ more) (suc at) t e = let rest = argument_there more at t e in omega (arith, rest)

-- the blocker of what an eliminator waits for
module _ (env : List Slot) (ctx : List Hyp) (calls : ℕ) (majors : ℕ) (s : Spine) (at : ℕ) (major : Tree) (l k : ℕ) where
  abbrev head : ℕ → Tree → Run Tree
  head n t = whnf_at env false n ctx t

  abbrev found : ℕ → Tree → Run (Option Blocker)
  found n t = blocker_at env (whnf_at env false n ctx) majors t

  abbrev step : Run (Option Blocker)
  step = whnf_at env false calls ctx major >>= λ value. blocker_at env (whnf_at env false calls ctx) majors value >>= λ b. pure (put_back_at s at b)

  pub no_value : (stop : Stop) → EndsAs IsSpineOf (Err stop) k (whnf_at env false calls ctx major l) → EndsAs IsBlocked (Err stop) k (step l)
  no_value stop ends = then_err IsSpineOf IsBlocked (head calls major) _ l k stop ends

  module _ (now : ℕ) (one : now ≡ calls) (value : Spine) (j : ℕ) (ends : EndsAs IsSpineOf (Ok value) k (whnf_at env false calls ctx major l)) where
    value_by : (result : Result (Option Blocked) Stop) → EndsAs IsBlocked result j ((found calls (tree_of_spine value) >>= λ b. pure (put_back_at s at b)) k) → EndsAs IsBlocked result j (step l)
    value_by result rest =
        then_ok IsSpineOf IsBlocked (head calls major) _ l k j value result ends
        (λ y is. subst (λ t. EndsAs IsBlocked result j ((found calls t >>= λ b. pure (put_back_at s at b)) k)) is.whole rest)

    pub value_stops : (stop : Stop) → EndsAs IsBlocked (Err stop) j (blocker_at env (whnf_at env false now ctx) majors (tree_of_spine value) k) → EndsAs IsBlocked (Err stop) j (step l)
    value_stops stop said =
        let more = subst (λ n. EndsAs IsBlocked (Err stop) j (found n (tree_of_spine value) k)) one said in
        value_by (Err stop) (then_err IsBlocked IsBlocked (found calls (tree_of_spine value)) _ k j stop more)

    none_back : (y : Option Blocker) → IsBlocked None y → EndsAs IsBlocked (Ok None) j (pure (put_back_at s at y) j)
    none_back None is = (tt, refl)
    none_back (Some b) is = absurd is

    pub value_free : EndsAs IsBlocked (Ok None) j (blocker_at env (whnf_at env false now ctx) majors (tree_of_spine value) k) → EndsAs IsBlocked (Ok None) j (step l)
    value_free said =
        let more = subst (λ n. EndsAs IsBlocked (Ok None) j (found n (tree_of_spine value) k)) one said in
        value_by (Ok None) (then_ok IsBlocked IsBlocked (found calls (tree_of_spine value)) _ k j j None (Ok None) more (λ y is. none_back y is))

    some_back : (outer inner : Blocked) → IsPutBack outer s at inner → (y : Option Blocker) → IsBlocked (Some inner) y → EndsAs IsBlocked (Ok (Some outer)) j (pure (put_back_at s at y) j)
    some_back outer inner back None is = absurd is
    some_back outer inner back (Some b) is = ((back.place ∙ is.0, back.replaced b.replaced is.1), refl)

    pub value_blocked : (outer inner : Blocked) → IsPutBack outer s at inner →
        EndsAs IsBlocked (Ok (Some inner)) j (blocker_at env (whnf_at env false now ctx) majors (tree_of_spine value) k) → EndsAs IsBlocked (Ok (Some outer)) j (step l)
    value_blocked outer inner back said =
        let more = subst (λ n. EndsAs IsBlocked (Ok (Some inner)) j (found n (tree_of_spine value) k)) one said in
        value_by (Ok (Some outer)) (then_ok IsBlocked IsBlocked (found calls (tree_of_spine value)) _ k j j (Some inner) (Ok (Some outer)) more (λ y is. some_back outer inner back y is))

small_by : (made : Option Spine) (t : Tree) → IsReplaced made t → IsSmallIfAny made
small_by None t is = tt
small_by (Some s) t is = record { head = is.head; small = ap is_small is.whole ∙ is.small }

blocked_by : (inner : Blocked) (answer : Result (Option Blocker) Stop) → IsOkAs IsBlocked (Some inner) answer → IsSmallIfAny inner.replaced
blocked_by inner (Ok None) is = absurd is
blocked_by inner (Ok (Some b)) is = small_by inner.replaced b.replaced is.1
blocked_by inner (Err stop) is = absurd is

pub blocked_small : (inner : Blocked) (j : ℕ) (ran : Ran (Option Blocker)) → EndsAs IsBlocked (Ok (Some inner)) j ran → IsSmallIfAny inner.replaced
blocked_small inner j ran ends = blocked_by inner ran.answer ends.0
