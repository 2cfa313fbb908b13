-- Runs by what calls answer, put together as the definitions of conversion are.
use Rattle.std.specs.Prelude.{◌≡◌, ℕ, suc, ◌-◌, ◌≤◌, ◌<◌, nat_le, List, ◌∷◌, ◌++◌, Bool, true, false, Result, Ok, Err, if◌then◌else◌, refl}
use Rattle.std.proofs.Common.{arith, ap, sym, ◌∙◌, subst}
use Rattle.std.proofs.lemmas.Bool.Decides.{nat_tests}
use Rattle.base_core.specs.declared.refusals.Stop.{Stop}
use Rattle.base_core.specs.declared.refusals.Stop.TheVariants.{Refused, Out, NoMem}
use Rattle.base_core.specs.declared.refusals.Limit.{Limit}
use Rattle.base_core.specs.declared.refusals.Limit.TheVariants.{DepthLimit, StepLimit, SizeLimit}
use Rattle.base_core.specs.Answers.{Gives}
use Rattle.core_term.specs.Tree.{Tree, is_small, same_tree}
use Rattle.term_spine.specs.Spine.{head_of, arguments_of}
use Rattle.term_spine.specs.declared.spines.Spine.{Spine}
use Rattle.term_spine.specs.Spines.{tree_of_spine, IsSpineOf}
use Rattle.term_spine.proofs.SpineFacts.{head_applied, head_is, arguments_applied, no_arguments}
use Rattle.cic_rules.specs.declared.context.Hyp.{Hyp}
use Rattle.cic_rules.specs.declared.env.Slot.{Slot}
use Rattle.cic_rules.specs.declared.judge.Mode.{Mode}
use Rattle.cic_rules.specs.declared.judge.Mode.TheVariants.{Same}
use Rattle.cic_rules.specs.Contexts.{extended, plain_hyp}
use Rattle.cic_rules.specs.Convert as rules
use Rattle.cic_rules.specs.Convert.{compare_cost, with_hyp, unblock, conv_all, conv_spines, conv_heads, conv_binders, conv_eta, conv_reduced, conv_step, compare, conv_at}
use Rattle.cic_rules.specs.Fuel.{FuelState, calls_left, IsSpentOf}
use Rattle.cic_rules.specs.Judges.{MeetsAnswer, IsTermIn}
use Rattle.cic_rules.specs.Reduce.{whnf_at}
use Rattle.cic_rules.specs.Runs.{Ran, Run, ◌>>=◌, ◌>>◌, and_then, pure, spend, check_size, Turn, Final, runs}
use Rattle.conversion.specs.declared.sides.Binder.{Binder}
use Rattle.conversion.specs.declared.sides.Rule.{Rule}
use Rattle.conversion.specs.declared.sides.Turned.{Turned}
use Rattle.conversion.specs.declared.sides.Turned.TheVariants as turned
use Rattle.conversion.specs.Turns.{IsSpine, IsOkAs, EndsAs}
use Rattle.conversion.specs.Sides.{rule_in, rule_step}
use Rattle.conversion.specs.Blockers.{IsTurned}
use Rattle.conversion.specs.Conversions.{answer_of, Is, IsSide}
use Rattle.conversion.proofs.SideLaws.{reduced_is}

-- a run and the rest, by what two calls answer
module _ {A B C D : Type 0} (R : A → B → Type 0) (S : C → D → Type 0) where
  ok_by : (x : A) (answer : Result B Stop) (n k j : ℕ) (g : B → Run D) (result : Result C Stop) → IsOkAs R x answer → k ≡ n →
      ((y : B) → R x y → EndsAs S result j (g y k)) → EndsAs S result j (and_then answer g n)
  ok_by x (Ok y) n k j g result is same rest = subst (λ m. EndsAs S result j (g y m)) same (rest y is)
  ok_by x (Err stop) n k j g result is same rest = absurd is

  pub then_ok : (f : Run B) (g : B → Run D) (l k j : ℕ) (x : A) (result : Result C Stop) → EndsAs R (Ok x) k (f l) →
      ((y : B) → R x y → EndsAs S result j (g y k)) → EndsAs S result j ((f >>= g) l)
  then_ok f g l k j x result ends rest = ok_by x (f l).answer (f l).left k j g result ends.0 ends.1 rest

  err_by : (limit : Limit) (answer : Result B Stop) (n k : ℕ) (g : B → Run D) → Err (Out limit) ≡ answer → k ≡ n →
      EndsAs S (Err (Out limit)) k (and_then answer g n)
  err_by limit answer n k g is same = subst (λ a. EndsAs S (Err (Out limit)) k (and_then a g n)) is (refl, same)

  pub then_err : (f : Run B) (g : B → Run D) (l k : ℕ) (stop : Stop) → EndsAs R (Err stop) k (f l) → EndsAs S (Err stop) k ((f >>= g) l)
  then_err f g l k (Refused r) ends = absurd ends
  then_err f g l k NoMem ends = tt
  then_err f g l k (Out limit) ends = err_by limit (f l).answer (f l).left k g ends.0 ends.1

-- steps that are paid, and sizes
module _ {C D : Type 0} (S : C → D → Type 0) where
  pub paid : (units l k j : ℕ) (g : Run D) (result : Result C Stop) → units ≤ l → k ≡ l - units → EndsAs S result j (g k) →
      EndsAs S result j ((spend units >> g) l)
  paid units l k j g result enough is ends =
      let holds : nat_le units l ≡ true = grind (arith, nat_tests) in
      rw holds (subst (λ m. EndsAs S result j (g m)) is ends)

  pub poor : (units l k : ℕ) (g : Run D) → l < units → k ≡ l - units → EndsAs S (Err (Out StepLimit)) k ((spend units >> g) l)
  poor units l k g less is =
      let fails : nat_le units l ≡ false = grind (arith, nat_tests) in
      rw fails (refl, omega (arith, less, is))

  pub sized : (t : Tree) (l j : ℕ) (g : Run D) (result : Result C Stop) → is_small t ≡ true → EndsAs S result j (g l) →
      EndsAs S result j ((check_size t >> g) l)
  sized t l j g result small ends = rw small ends

  pub too_large : (t : Tree) (l k : ℕ) (g : Run D) → is_small t ≡ false → k ≡ l → EndsAs S (Err (Out SizeLimit)) k ((check_size t >> g) l)
  too_large t l k g large same = rw large (refl, same)

-- answers
pub ok_is : {A : Type 0} (x : A) (answer : Result A Stop) → IsOkAs Is x answer → Ok x ≡ answer
ok_is x (Ok y) is = ap Ok is
ok_is x (Err stop) is = absurd is

pub told : (x : Bool) (k : ℕ) (ran : Ran Bool) → EndsAs Is (Ok x) k ran → MeetsAnswer (Ok (answer_of x)) k ran
told true k ran ends = (ok_is true ran.answer ends.0, ends.1)
told false k ran ends = (ok_is false ran.answer ends.0, ends.1)

spine_by : (s : Spine) (answer : Result Tree Stop) → IsOkAs IsSpineOf s answer → IsSpine s
spine_by s (Ok t) is = record { head = is.head; small = ap is_small is.whole ∙ is.small }
spine_by s (Err stop) is = absurd is

-- what a call gives is a spine
pub reached : (s : Spine) (k : ℕ) (ran : Ran Tree) → EndsAs IsSpineOf (Ok s) k ran → IsSpine s
reached s k ran ends = spine_by s ran.answer ends.0

pub same_calls : (old new : FuelState) → IsSpentOf old new → calls_left new ≡ calls_left old
same_calls old new is = let same = is.nesting in omega (arith, same)

pub side_is : (env : List Slot) (ctx : List Hyp) (s : Spine) (t : Tree) → IsSpineOf s t → IsTermIn env ctx t → IsSide env ctx s
side_is env ctx s t of term =
    record { spine = record { head = of.head; small = ap is_small of.whole ∙ of.small }; term = subst (IsTermIn env ctx) (sym of.whole) term }

-- a spine's parts
pub head_told : (s : Spine) → IsSpine s → head_of (tree_of_spine s) ≡ s.head
head_told s is = head_applied s.head s.args ∙ head_is s.head is.head

pub args_told : (s : Spine) → IsSpine s → arguments_of (tree_of_spine s) ≡ s.args
args_told s is = arguments_applied s.head s.args ∙ ap (λ first. first ++ s.args) (no_arguments s.head is.head)

-- a context with a binder
extended_by : (b : Bool) (ctx : List Hyp) (h : Hyp) (inner : List Hyp) → Ok inner ≡ (if b then Ok (h ∷ ctx) else Err (Out SizeLimit)) → inner ≡ h ∷ ctx
extended_by true ctx h inner e = cc
extended_by false ctx h inner e = cc

pub extended_is : (ctx : List Hyp) (h : Hyp) (inner : List Hyp) → Ok inner ≡ extended ctx h → inner ≡ h ∷ ctx
extended_is ctx h inner e = extended_by _ ctx h inner e

module _ (env : List Slot) (ctx : List Hyp) (calls : ℕ) where
  abbrev head : List Hyp → Tree → Run Tree
  head c t = whnf_at env false calls c t

  -- judgements
  pub no_judgement : (mode : Mode) (t u : Tree) (all l k : ℕ) → all ≡ 0 → k ≡ l → EndsAs Is (Err (Out DepthLimit)) k (conv_at env all ctx mode t u l)
  unfolding conv_at
  no_judgement mode t u all l k e same = rw e (refl, same)

  pub judged : (mode : Mode) (t u : Tree) (all l k : ℕ) (result : Result Bool Stop) → all ≡ suc calls →
      EndsAs Is result k ((spend (compare_cost t u) >> compare env calls (whnf_at env false calls) (conv_at env calls) ctx mode t u) l) →
      EndsAs Is result k (conv_at env all ctx mode t u l)
  unfolding conv_at
  judged mode t u all l k result e ends = rw e ends

  -- trees that are one, and others
  pub one_tree : (mode : Mode) (t u : Tree) (l : ℕ) → same_tree t u ≡ true →
      EndsAs Is (Ok true) l (compare env calls (whnf_at env false calls) (conv_at env calls) ctx mode t u l)
  one_tree mode t u l e = rw e (refl, refl)

  pub two_trees : (mode : Mode) (t u : Tree) (l k : ℕ) (result : Result Bool Stop) → same_tree t u ≡ false →
      EndsAs Is result k (runs (conv_step env calls (whnf_at env false calls) (conv_at env calls) ctx mode) (t, u) l) →
      EndsAs Is result k (compare env calls (whnf_at env false calls) (conv_at env calls) ctx mode t u l)
  two_trees mode t u l k result e ends = rw e ends

  -- the heads of both sides
  pub left_stops : (mode : Mode) (sides : rules.Sides) (l k : ℕ) (stop : Stop) → EndsAs IsSpineOf (Err stop) k (whnf_at env false calls ctx sides.0 l) →
      EndsAs IsTurned (Err stop) k (conv_step env calls (whnf_at env false calls) (conv_at env calls) ctx mode sides l)
  left_stops mode sides l k stop ends = then_err IsSpineOf IsTurned (head ctx sides.0) _ l k stop ends

  pub right_stops : (now : ℕ) → now ≡ calls → (mode : Mode) (sides : rules.Sides) (l k j : ℕ) (s : Spine) (stop : Stop) →
      EndsAs IsSpineOf (Ok s) k (whnf_at env false calls ctx sides.0 l) → EndsAs IsSpineOf (Err stop) j (whnf_at env false now ctx sides.1 k) →
      EndsAs IsTurned (Err stop) j (conv_step env calls (whnf_at env false calls) (conv_at env calls) ctx mode sides l)
  right_stops now one mode sides l k j s stop ends said =
      let more = subst (λ n. EndsAs IsSpineOf (Err stop) j (whnf_at env false n ctx sides.1 k)) one said in
      then_ok IsSpineOf IsTurned (head ctx sides.0) _ l k j s (Err stop) ends (λ y is. then_err IsSpineOf IsTurned (head ctx sides.1) _ k j stop more)

  pub both_heads : (now later : ℕ) → now ≡ calls → later ≡ calls → (mode : Mode) (sides : rules.Sides) (l k j i : ℕ) (s r : Spine) (result : Result Turned Stop) →
      EndsAs IsSpineOf (Ok s) k (whnf_at env false calls ctx sides.0 l) → EndsAs IsSpineOf (Ok r) j (whnf_at env false now ctx sides.1 k) →
      EndsAs IsTurned result i (conv_reduced env later (whnf_at env false later) (conv_at env later) ctx mode (tree_of_spine s) (tree_of_spine r) j) →
      EndsAs IsTurned result i (conv_step env calls (whnf_at env false calls) (conv_at env calls) ctx mode sides l)
  both_heads now later one two mode sides l k j i s r result ends said last =
      let more = subst (λ n. EndsAs IsSpineOf (Ok r) j (whnf_at env false n ctx sides.1 k)) one said in
      let rest = subst (λ n. EndsAs IsTurned result i (conv_reduced env n (whnf_at env false n) (conv_at env n) ctx mode (tree_of_spine s) (tree_of_spine r) j)) two last in
      then_ok IsSpineOf IsTurned (head ctx sides.0) _ l k i s result ends
      (λ y is. then_ok IsSpineOf IsTurned (head ctx sides.1) _ k j i r result more
      (λ z other. subst (λ a. EndsAs IsTurned result i (conv_reduced env calls (whnf_at env false calls) (conv_at env calls) ctx mode a z j)) is.whole
      (subst (λ a. EndsAs IsTurned result i (conv_reduced env calls (whnf_at env false calls) (conv_at env calls) ctx mode (tree_of_spine s) a j)) other.whole rest)))

  -- the rule for both sides
  pub ruled : (mode : Mode) (t u : Tree) (rule : Rule) (l k : ℕ) (result : Result Turned Stop) → rule ≡ rule_in mode t u →
      EndsAs IsTurned result k (rule_step env calls (whnf_at env false calls) (conv_at env calls) ctx rule t u l) →
      EndsAs IsTurned result k (conv_reduced env calls (whnf_at env false calls) (conv_at env calls) ctx mode t u l)
  ruled mode t u rule l k result e ends =
      let same = reduced_is env calls (whnf_at env false calls) (conv_at env calls) ctx mode t u in
      let by = subst (λ r. EndsAs IsTurned result k (rule_step env calls (whnf_at env false calls) (conv_at env calls) ctx r t u l)) e ends in
      subst (λ r. EndsAs IsTurned result k (r l)) (sym same) by

  -- what is bound is not the same
  pub bound_apart : (mode : Mode) (b c : Binder) (l k : ℕ) → EndsAs Is (Ok false) k (conv_at env calls ctx Same b.domain c.domain l) →
      EndsAs IsTurned (Ok (turned.Final false)) k (conv_binders env calls (whnf_at env false calls) (conv_at env calls) ctx mode b.name b.domain b.body c.domain c.body l)
  bound_apart mode b c l k ends =
      then_ok Is IsTurned (conv_at env calls ctx Same b.domain c.domain) _ l k k false (Ok (turned.Final false)) ends (λ y is. rw (sym is) (refl, refl))

  pub bound_stops : (mode : Mode) (b c : Binder) (l k : ℕ) (stop : Stop) → EndsAs Is (Err stop) k (conv_at env calls ctx Same b.domain c.domain l) →
      EndsAs IsTurned (Err stop) k (conv_binders env calls (whnf_at env false calls) (conv_at env calls) ctx mode b.name b.domain b.body c.domain c.body l)
  bound_stops mode b c l k stop ends = then_err Is IsTurned (conv_at env calls ctx Same b.domain c.domain) _ l k stop ends

  abbrev below : ℕ → Binder → Mode → Tree → Tree → Run (Turn rules.Sides Bool)
  below n b mode t u = with_hyp ctx (plain_hyp b.name b.domain) >>= λ inner. conv_at env n inner mode t u >>= λ answer. pure (Final answer)

  pub bound_same : (now : ℕ) → now ≡ calls → (mode : Mode) (b c : Binder) (l k j : ℕ) (result : Result Turned Stop) →
      EndsAs Is (Ok true) k (conv_at env calls ctx Same b.domain c.domain l) →
      EndsAs IsTurned result j ((with_hyp ctx (plain_hyp b.name b.domain) >>= λ inner. conv_at env now inner mode b.body c.body >>= λ answer. pure (Final answer)) k) →
      EndsAs IsTurned result j (conv_binders env calls (whnf_at env false calls) (conv_at env calls) ctx mode b.name b.domain b.body c.domain c.body l)
  bound_same now one mode b c l k j result ends said =
      let rest = subst (λ n. EndsAs IsTurned result j (below n b mode b.body c.body k)) one said in
      then_ok Is IsTurned (conv_at env calls ctx Same b.domain c.domain) _ l k j true result ends (λ y is. rw (sym is) rest)

  -- under a binder
  pub under_ends : (b : Binder) (mode : Mode) (t u : Tree) (inner : List Hyp) (l k : ℕ) (answer : Bool) → Ok inner ≡ extended ctx (plain_hyp b.name b.domain) →
      EndsAs Is (Ok answer) k (conv_at env calls inner mode t u l) → EndsAs IsTurned (Ok (turned.Final answer)) k (below calls b mode t u l)
  under_ends b mode t u inner l k answer e ends =
      rw (sym e) (then_ok Is IsTurned (conv_at env calls inner mode t u) _ l k k answer (Ok (turned.Final answer)) ends (λ y is. (is, refl)))

  pub under_stops : (b : Binder) (mode : Mode) (t u : Tree) (inner : List Hyp) (l k : ℕ) (stop : Stop) → Ok inner ≡ extended ctx (plain_hyp b.name b.domain) →
      EndsAs Is (Err stop) k (conv_at env calls inner mode t u l) → EndsAs IsTurned (Err stop) k (below calls b mode t u l)
  under_stops b mode t u inner l k stop e ends = rw (sym e) (then_err Is IsTurned (conv_at env calls inner mode t u) _ l k stop ends)

  full_by : (room : Bool) (h : Hyp) (g : List Hyp → Run (Turn rules.Sides Bool)) (l : ℕ) (stop : Stop) →
      Gives {A = List Hyp} (Err stop) (if room then Ok (h ∷ ctx) else Err (Out SizeLimit)) →
      EndsAs IsTurned (Err stop) l (and_then (if room then Ok (h ∷ ctx) else Err (Out SizeLimit)) g l)
  full_by room h g l NoMem gives = tt
  full_by true h g l (Refused r) gives = absurd (cc)
  full_by true h g l (Out limit) gives = absurd (cc)
  full_by false h g l (Refused r) gives = absurd (cc)
  full_by false h g l (Out limit) gives = let same : limit ≡ SizeLimit = cc in (ap (λ x. Err (Out x)) same, refl)

  pub under_full : (b : Binder) (mode : Mode) (t u : Tree) (l : ℕ) (stop : Stop) → Gives {A = List Hyp} (Err stop) (extended ctx (plain_hyp b.name b.domain)) →
      EndsAs IsTurned (Err stop) l (below calls b mode t u l)
  under_full b mode t u l stop gives = full_by _ (plain_hyp b.name b.domain) _ l stop gives
