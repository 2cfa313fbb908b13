-- The turn of two sides by what blocks them.
use Rattle.std.specs.Prelude.{◌≡◌, ℕ, ◌-◌, ◌≤◌, ◌<◌, ◌==◌, nat_le, nat_lt, List, Bool, true, false, Option, Some, None, Result, Ok, Err, refl}
use Rattle.std.proofs.Common.{arith, ap, sym, ◌∙◌, subst}
use Rattle.std.proofs.lemmas.Bool.Decides.{nat_tests}
use Rattle.base_core.specs.declared.refusals.Stop.{Stop}
use Rattle.base_core.specs.declared.refusals.Stop.TheVariants.{Refused, Out, NoMem}
use Rattle.base_core.specs.declared.refusals.Limit.{Limit}
use Rattle.base_core.specs.declared.refusals.Limit.TheVariants.{StepLimit, SizeLimit}
use Rattle.core_term.specs.Tree.{Tree, is_small}
use Rattle.term_spine.specs.declared.spines.Spine.{Spine}
use Rattle.term_spine.specs.Spines.{tree_of_spine, IsSpineOf}
use Rattle.cic_rules.specs.declared.context.Hyp.{Hyp}
use Rattle.cic_rules.specs.declared.env.Slot.{Slot}
use Rattle.cic_rules.specs.Convert as rules
use Rattle.cic_rules.specs.Convert.{Blocker, blocker_at, unfold_left, unfold_right, unfold_both, unfold_later, delta_step, unblock, conv_at}
use Rattle.cic_rules.specs.Reduce.{whnf_at}
use Rattle.cic_rules.specs.Runs.{Run, ◌>>◌, pure, spend, check_size, Turn, GoOn}
use Rattle.conversion.specs.declared.blockers.Blocked.{Blocked}
use Rattle.conversion.specs.declared.sides.Turned.{Turned}
use Rattle.conversion.specs.declared.sides.Turned.TheVariants as turned
use Rattle.conversion.specs.Turns.{IsSpine, EndsAs}
use Rattle.conversion.specs.Blockers.{IsReplaced, IsBlocked, IsTurned, replaced_step}
use Rattle.conversion.proofs.ConvertLaws.{then_ok, then_err, paid, poor, sized, too_large}

-- what replaces a side
pub replaced_poor : (l k : ℕ) → l < 1 → k ≡ l - 1 → (t : Tree) → EndsAs {A = Spine} IsSpineOf (Err (Out StepLimit)) k (replaced_step t l)
replaced_poor l k less is t = poor IsSpineOf 1 l k (check_size t >> pure t) less is

pub replaced_made : (s : Spine) (l k : ℕ) → 1 ≤ l → k ≡ l - 1 → (t : Tree) → IsReplaced (Some s) t → EndsAs IsSpineOf (Ok s) k (replaced_step t l)
replaced_made s l k enough same t is =
    paid IsSpineOf 1 l k k (check_size t >> pure t) (Ok s) enough same (sized IsSpineOf t k k (pure t) (Ok s) is.small (is, refl))

pub replaced_large : (l k : ℕ) → 1 ≤ l → k ≡ l - 1 → (t : Tree) → IsReplaced None t → EndsAs {A = Spine} IsSpineOf (Err (Out SizeLimit)) k (replaced_step t l)
replaced_large l k enough same t large =
    paid IsSpineOf 1 l k k (check_size t >> pure t) (Err (Out SizeLimit)) enough same (too_large IsSpineOf t k k (pure t) large refl)

module _ {D : Type 0} {C : Type 0} (S : C → D → Type 0) (t : Tree) (g : Run D) (l k : ℕ) where
  ok_by : (enough small : Bool) (s : Spine) (j : ℕ) (result : Result C Stop) → nat_le 1 l ≡ enough → is_small t ≡ small →
      EndsAs IsSpineOf (Ok s) k (replaced_step t l) → (IsSpineOf s t → EndsAs S result j (g k)) → EndsAs S result j ((spend 1 >> (check_size t >> g)) l)
  ok_by false small s j result e d ends rest = let none = rw e at ends in absurd none.0
  ok_by true false s j result e d ends rest = let none = rw (e, d) at ends in absurd none.0
  ok_by true true s j result e d ends rest =
      let facts = rw (e, d) at ends in
      rw (e, d) (subst (λ m. EndsAs S result j (g m)) facts.1 (rest facts.0))

  pub then_replaced : (s : Spine) (j : ℕ) (result : Result C Stop) → EndsAs IsSpineOf (Ok s) k (replaced_step t l) → (IsSpineOf s t → EndsAs S result j (g k)) →
      EndsAs S result j ((spend 1 >> (check_size t >> g)) l)
  then_replaced s j result ends rest = ok_by (nat_le 1 l) (is_small t) s j result refl refl ends rest

  stop_by : (enough small : Bool) (limit : Limit) → nat_le 1 l ≡ enough → is_small t ≡ small →
      EndsAs {A = Spine} IsSpineOf (Err (Out limit)) k (replaced_step t l) → EndsAs S (Err (Out limit)) k ((spend 1 >> (check_size t >> g)) l)
  stop_by false small limit e d ends =
      let facts = rw e at ends in
      let same : limit ≡ StepLimit = cc in
      rw (e, same) (refl, facts.1)
  stop_by true false limit e d ends =
      let facts = rw (e, d) at ends in
      let same : limit ≡ SizeLimit = cc in
      rw (e, d, same) (refl, facts.1)
  stop_by true true limit e d ends = let none = rw (e, d) at ends in absurd (cc)

  pub not_replaced : (stop : Stop) → EndsAs {A = Spine} IsSpineOf (Err stop) k (replaced_step t l) → EndsAs S (Err stop) k ((spend 1 >> (check_size t >> g)) l)
  not_replaced (Refused r) ends = absurd ends
  not_replaced NoMem ends = tt
  not_replaced (Out limit) ends = stop_by (nat_le 1 l) (is_small t) limit refl refl ends

is_spine : (s : Spine) (t : Tree) → IsSpineOf s t → IsSpine s
is_spine s t of = record { head = of.head; small = ap is_small of.whole ∙ of.small }

pair_is : {A B : Type 0} {a b : A} {c d : B} → a ≡ b → c ≡ d → ◌≡◌ {A = A × B} (a, c) (b, d)
pair_is e f = rw (e, f) refl

abbrev sides : Spine → Spine → Turned
sides s r = turned.GoOn (record { left = s; right = r })

-- one side replaced, or both
pub left_unfolds : (s r u : Spine) (l k : ℕ) → u ≡ r → IsSpine r → (b : Blocker) → EndsAs IsSpineOf (Ok s) k (replaced_step b.replaced l) →
    EndsAs IsTurned (Ok (sides s u)) k (unfold_left b (tree_of_spine r) l)
left_unfolds s r u l k e is b ends =
    then_replaced IsTurned b.replaced (pure (GoOn (b.replaced, tree_of_spine r))) l k s k (Ok (sides s u)) ends
    (λ of. ((pair_is of.whole (ap tree_of_spine e), (is_spine s b.replaced of, subst IsSpine (sym e) is)), refl))

pub right_unfolds : (s r u : Spine) (l k : ℕ) → u ≡ s → IsSpine s → (c : Blocker) → EndsAs IsSpineOf (Ok r) k (replaced_step c.replaced l) →
    EndsAs IsTurned (Ok (sides u r)) k (unfold_right (tree_of_spine s) c l)
right_unfolds s r u l k e is c ends =
    then_replaced IsTurned c.replaced (pure (GoOn (tree_of_spine s, c.replaced))) l k r k (Ok (sides u r)) ends
    (λ of. ((pair_is (ap tree_of_spine e) of.whole, (subst IsSpine (sym e) is, is_spine r c.replaced of)), refl))

pub left_stops : (r : Spine) (l k : ℕ) (stop : Stop) (b : Blocker) → EndsAs {A = Spine} IsSpineOf (Err stop) k (replaced_step b.replaced l) →
    EndsAs IsTurned (Err stop) k (unfold_left b (tree_of_spine r) l)
left_stops r l k stop b ends = not_replaced IsTurned b.replaced (pure (GoOn (b.replaced, tree_of_spine r))) l k stop ends

pub right_stops : (s : Spine) (l k : ℕ) (stop : Stop) (c : Blocker) → EndsAs {A = Spine} IsSpineOf (Err stop) k (replaced_step c.replaced l) →
    EndsAs IsTurned (Err stop) k (unfold_right (tree_of_spine s) c l)
right_stops s l k stop c ends = not_replaced IsTurned c.replaced (pure (GoOn (tree_of_spine s, c.replaced))) l k stop ends

pub both_unfold : (s r : Spine) (l k j : ℕ) (b c : Blocker) → EndsAs IsSpineOf (Ok s) k (replaced_step b.replaced l) → EndsAs IsSpineOf (Ok r) j (replaced_step c.replaced k) →
    EndsAs IsTurned (Ok (sides s r)) j (unfold_both b c l)
both_unfold s r l k j b c ends more =
    then_replaced IsTurned b.replaced (unfold_right b.replaced c) l k s j (Ok (sides s r)) ends
    (λ of. then_replaced IsTurned c.replaced (pure (GoOn (b.replaced, c.replaced))) k j r j (Ok (sides s r)) more
    (λ other. ((pair_is of.whole other.whole, (is_spine s b.replaced of, is_spine r c.replaced other)), refl)))

pub both_stop : (l k : ℕ) (stop : Stop) (b c : Blocker) → EndsAs {A = Spine} IsSpineOf (Err stop) k (replaced_step b.replaced l) →
    EndsAs IsTurned (Err stop) k (unfold_both b c l)
both_stop l k stop b c ends = not_replaced IsTurned b.replaced (unfold_right b.replaced c) l k stop ends

pub second_stops : (s : Spine) (l k j : ℕ) (stop : Stop) (b c : Blocker) → EndsAs IsSpineOf (Ok s) k (replaced_step b.replaced l) →
    EndsAs {A = Spine} IsSpineOf (Err stop) j (replaced_step c.replaced k) → EndsAs IsTurned (Err stop) j (unfold_both b c l)
second_stops s l k j stop b c ends more =
    then_replaced IsTurned b.replaced (unfold_right b.replaced c) l k s j (Err stop) ends
    (λ of. not_replaced IsTurned c.replaced (pure (GoOn (b.replaced, c.replaced))) k j stop more)

-- by two blockers
module _ (t u : Tree) (result : Result Turned Stop) (l k : ℕ) (b c : Blocked) (x y : Blocker) (one : IsBlocked (Some b) (Some x)) (two : IsBlocked (Some c) (Some y)) where
  pub by_one : b.place ≡ c.place → EndsAs IsTurned result k (unfold_both x y l) → EndsAs IsTurned result k (delta_step t u (Some x) (Some y) l)
  by_one e ends =
      let same : (x.place == y.place) ≡ true = grind (arith, nat_tests, one.0, two.0, e) in
      rw same ends

  pub by_left : c.place < b.place → EndsAs IsTurned result k (unfold_left x u l) → EndsAs IsTurned result k (delta_step t u (Some x) (Some y) l)
  by_left less ends =
      let other : (x.place == y.place) ≡ false = grind (arith, nat_tests, one.0, two.0, less) in
      let later : nat_lt y.place x.place ≡ true = grind (arith, nat_tests, one.0, two.0, less) in
      rw (other, later) ends

  pub by_right : b.place < c.place → EndsAs IsTurned result k (unfold_right t y l) → EndsAs IsTurned result k (delta_step t u (Some x) (Some y) l)
  by_right less ends =
      let other : (x.place == y.place) ≡ false = grind (arith, nat_tests, one.0, two.0, less) in
      let later : nat_lt y.place x.place ≡ false = grind (arith, nat_tests, one.0, two.0, less) in
      rw (other, later) ends

-- by what blocks each side, if anything
module _ (t u : Tree) (result : Result Turned Stop) (l k : ℕ) where
  pub by_none : (x y : Option Blocker) → IsBlocked None x → IsBlocked None y → EndsAs IsTurned (Ok (turned.Final false)) l (delta_step t u x y l)
  by_none None None is also = (refl, refl)
  by_none None (Some y) is also = absurd also
  by_none (Some x) y is also = absurd is

  pub by_first : (b : Blocked) → ((x : Blocker) → IsReplaced b.replaced x.replaced → EndsAs IsTurned result k (unfold_left x u l)) →
      (x y : Option Blocker) → IsBlocked (Some b) x → IsBlocked None y → EndsAs IsTurned result k (delta_step t u x y l)
  by_first b ends None y is also = absurd is
  by_first b ends (Some x) None is also = ends x is.1
  by_first b ends (Some x) (Some y) is also = absurd also

  pub by_second : (c : Blocked) → ((y : Blocker) → IsReplaced c.replaced y.replaced → EndsAs IsTurned result k (unfold_right t y l)) →
      (x y : Option Blocker) → IsBlocked None x → IsBlocked (Some c) y → EndsAs IsTurned result k (delta_step t u x y l)
  by_second c ends (Some x) y is also = absurd is
  by_second c ends None None is also = absurd also
  by_second c ends None (Some y) is also = ends y also.1

  pub by_two : (b c : Blocked) → ((x y : Blocker) → IsBlocked (Some b) (Some x) → IsBlocked (Some c) (Some y) → EndsAs IsTurned result k (delta_step t u (Some x) (Some y) l)) →
      (x y : Option Blocker) → IsBlocked (Some b) x → IsBlocked (Some c) y → EndsAs IsTurned result k (delta_step t u x y l)
  by_two b c ends None y is also = absurd is
  by_two b c ends (Some x) None is also = absurd also
  by_two b c ends (Some x) (Some y) is also = ends x y is also

-- the blockers of both sides
module _ (env : List Slot) (ctx : List Hyp) (calls : ℕ) (t u : Tree) (l k : ℕ) where
  abbrev found : ℕ → Tree → Run (Option Blocker)
  found n s = blocker_at env (whnf_at env false n ctx) calls s

  abbrev step : Run (Turn rules.Sides Bool)
  step = unblock env calls (whnf_at env false calls) (conv_at env calls) ctx t u

  pub first_stops : (stop : Stop) → EndsAs {A = Option Blocked} IsBlocked (Err stop) k (found calls t l) → EndsAs IsTurned (Err stop) k (step l)
  first_stops stop ends = then_err IsBlocked IsTurned (found calls t) _ l k stop ends

  pub other_stops : (now : ℕ) → now ≡ calls → (b : Option Blocked) (j : ℕ) (stop : Stop) → EndsAs IsBlocked (Ok b) k (found calls t l) →
      EndsAs {A = Option Blocked} IsBlocked (Err stop) j (found now u k) → EndsAs IsTurned (Err stop) j (step l)
  other_stops now one b j stop ends said =
      let more = subst (λ n. EndsAs {A = Option Blocked} IsBlocked (Err stop) j (found n u k)) one said in
      then_ok IsBlocked IsTurned (found calls t) _ l k j b (Err stop) ends (λ x is. then_err IsBlocked IsTurned (found calls u) _ k j stop more)

  pub both_blocked : (now : ℕ) → now ≡ calls → (b c : Option Blocked) (j i : ℕ) (result : Result Turned Stop) → EndsAs IsBlocked (Ok b) k (found calls t l) →
      EndsAs IsBlocked (Ok c) j (found now u k) → ((x y : Option Blocker) → IsBlocked b x → IsBlocked c y → EndsAs IsTurned result i (delta_step t u x y j)) →
      EndsAs IsTurned result i (step l)
  both_blocked now one b c j i result ends said rest =
      let more = subst (λ n. EndsAs IsBlocked (Ok c) j (found n u k)) one said in
      then_ok IsBlocked IsTurned (found calls t) _ l k i b result ends
      (λ x is. then_ok IsBlocked IsTurned (found calls u) _ k j i c result more (λ y also. rest x y is also))
