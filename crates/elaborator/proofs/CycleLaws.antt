-- The loops of elaboration, against its runs.
use Rattle.std.proofs.Common.{◌≡◌, ℕ, ◌+◌, ◌-◌, ◌<◌, ◌≤◌, List, [], ◌∷◌, ◌++◌, length, drop, get_or, IfOk, Result, Ok, Err, refl, sym, ◌∙◌, ap, subst, arith}
use Rattle.std.proofs.lemmas.List.{drop_all}
use Rattle.base_core.specs.declared.refusals.Stop.{Stop}
use Rattle.base_core.specs.declared.refusals.Stop.TheVariants.{Refused, Out, NoMem}
use Rattle.base_core.specs.Answers.{Gives}
use Rattle.coq_syntax.specs.declared.words.TokenPlace.{TokenPlace}
use Rattle.coq_syntax.specs.declared.words.BoundName.{BoundName}
use Rattle.coq_syntax.specs.declared.tree.Group.{Group}
use Rattle.coq_syntax.specs.declared.tree.Argument.{Argument}
use Rattle.coq_syntax.specs.declared.tree.Argument.TheVariants.{Positional, Given}
use Rattle.coq_syntax.specs.Trees.{Term, Arguments}
use Rattle.coq_syntax.specs.Trees as tree
use Rattle.coq_syntax.specs.Nodes.{groups_of, with_argument, arguments_of}
use Rattle.coq_syntax.specs.Counts.{argument_term}
use Rattle.core_term.specs.Tree.{Tree}
use Rattle.cic_rules.specs.declared.context.Hyp.{Hyp}
use Rattle.cic_rules.specs.declared.env.Slot.{Slot}
use Rattle.cic_rules.specs.Fuel.{FuelState, left, calls_left, NESTING_LIMIT, IsSpentOf}
use Rattle.cic_rules.specs.Judges.{MayJudge, IsTermIn, Meets}
use Rattle.cic_rules.specs.Runs.{Ran, Run, give, pure, and_then, ◌>>=◌}
use Rattle.cic_rules.specs.Steps.{Step, answer_of, take_step}
use Rattle.elaborator.specs.Rows.{bound}
use Rattle.elaborator.specs.Elab.{elab, elab_arguments, open_groups, elab_with, arguments_with, groups_with}
use Rattle.elaborator.specs.Names.{bound_name}
use Rattle.elaborator.specs.Calls.{bound_with, let_with}
use Rattle.elaborator.proofs.InsideLaws.{elab_inside}
use Rattle.cic_rules.specs.Environments.{IsEnvironment}
use Rattle.elaborator.proofs.LoopLaws.{at_index}

-- a step that is taken, where units don't change
pub taken : {A : Type 0} (answer : Result A Stop) (step : Step A) (l : ℕ) → Gives answer (answer_of step) → Meets answer l (take_step step l)
taken (Ok x) step l e = (e, refl)
taken (Err (Refused r)) step l e = (e, refl)
taken (Err (Out limit)) step l e = (e, refl)
taken (Err NoMem) step l e = tt

calls_same : (old new : FuelState) → IsSpentOf old new → calls_left new ≡ calls_left old
calls_same old new kept = ap (λ n. NESTING_LIMIT - n) kept.nesting

pub spent_twice : (a b c : FuelState) → IsSpentOf a b → IsSpentOf b c → IsSpentOf a c
spent_twice a b c one two =
    record { limit = two.limit ∙ one.limit; nesting = two.nesting ∙ one.nesting; spent = omega (arith, one.spent, two.spent) }

goes_by : {A B : Type 0} (x : A) (l : ℕ) (ran : Ran A) (g : A → Run B) → Ok x ≡ ran.answer → l ≡ ran.left → and_then ran.answer g ran.left ≡ g x l
goes_by x l ran g e same = ap (λ a. and_then a g ran.left) (sym e) ∙ ap (λ n. g x n) (sym same)

stop_by : {A B : Type 0} (stop : Stop) (l : ℕ) (ran : Ran A) (g : A → Run B) → Err stop ≡ ran.answer → l ≡ ran.left →
    and_then ran.answer g ran.left ≡ give {A = B} (Err stop) l
stop_by {B = B} stop l ran g e same = ap (λ a. and_then a g ran.left) (sym e) ∙ ap (λ n. give {A = B} (Err stop) n) (sym same)

-- a run that stops, and what would follow
pub meets_stop : {A B : Type 0} (stop : Stop) (l : ℕ) (ran : Ran A) (g : A → Run B) (whole : Ran B) → whole ≡ and_then ran.answer g ran.left →
    Meets {A = A} (Err stop) l ran → Meets {A = B} (Err stop) l whole
meets_stop (Refused r) l ran g whole e h =
    let all = e ∙ stop_by (Refused r) l ran g h.0 h.1 in
    (sym (ap (λ w. w.answer) all), sym (ap (λ w. w.left) all))
meets_stop (Out limit) l ran g whole e h =
    let all = e ∙ stop_by (Out limit) l ran g h.0 h.1 in
    (sym (ap (λ w. w.answer) all), sym (ap (λ w. w.left) all))
meets_stop NoMem l ran g whole e h = tt

-- arguments: those behind an index are still to be done
pub record IsUnderWay (env : List Slot) (ctx : List Hyp) (arguments : List Argument) (index : ℕ) (done : List Tree) (old new : FuelState) : Type 0 where
  pub same : arguments_with env ctx (arguments_of arguments) old ≡ elab_arguments env (calls_left new) ctx done (arguments_of (drop index arguments)) (left new)
  pub kept : IsSpentOf old new

one_more : (env : List Slot) (calls : ℕ) (ctx : List Hyp) (done : List Tree) (x : Argument) (after : Arguments) (l : ℕ) →
    elab_arguments env calls ctx done (with_argument x after) l
    ≡ (elab env calls ctx (argument_term x) >>= (λ v. elab_arguments env calls ctx (done ++ v ∷ []) after)) l
unfolding elab_arguments
one_more env calls ctx done (Positional t) after l = refl
one_more env calls ctx done (Given opening name assign value closing) after l = refl

argument_front : (env : List Slot) (ctx : List Hyp) (arguments : List Argument) (index : ℕ) (done : List Tree) (old new : FuelState) (x : Argument) →
    index < length arguments → x ≡ get_or arguments index x → IsUnderWay env ctx arguments index done old new →
    arguments_with env ctx (arguments_of arguments) old
    ≡ (elab env (calls_left new) ctx (argument_term x) >>= (λ v. elab_arguments env (calls_left new) ctx (done ++ v ∷ []) (arguments_of (drop (index + 1) arguments)))) (left new)
argument_front env ctx arguments index done old new x lt is way =
    way.same ∙ ap (λ xs. elab_arguments env (calls_left new) ctx done (arguments_of xs) (left new)) (at_index arguments index x lt is)
    ∙ one_more env (calls_left new) ctx done x (arguments_of (drop (index + 1) arguments)) (left new)

pub next_argument : (env : List Slot) (ctx : List Hyp) (arguments : List Argument) (index : ℕ) (done all : List Tree) (old new newer : FuelState) (x : Argument)
    (s : Term) (v : Tree) → index < length arguments → x ≡ get_or arguments index x → s ≡ argument_term x →
    IsUnderWay env ctx arguments index done old new → Meets (Ok v) (left newer) (elab_with env ctx s new) → IsSpentOf new newer →
    all ≡ done ++ v ∷ [] → IsUnderWay env ctx arguments (index + 1) all old newer
next_argument env ctx arguments index done all old new newer x s v lt is term way met kept e =
    let ran : Ran Tree = elab_with env ctx (argument_term x) new in
    let here : Meets (Ok v) (left newer) ran = subst (λ t. Meets (Ok v) (left newer) (elab_with env ctx t new)) term met in
    let rest : Tree → Run (List Tree) = λ u. elab_arguments env (calls_left new) ctx (done ++ u ∷ []) (arguments_of (drop (index + 1) arguments)) in
    record {
      same =
          argument_front env ctx arguments index done old new x lt is way ∙ goes_by v (left newer) ran rest here.0 here.1
          ∙ ap (λ c. elab_arguments env c ctx (done ++ v ∷ []) (arguments_of (drop (index + 1) arguments)) (left newer)) (sym (calls_same new newer kept))
          ∙ ap (λ ts. elab_arguments env (calls_left newer) ctx ts (arguments_of (drop (index + 1) arguments)) (left newer)) (sym e);
      kept = spent_twice old new newer way.kept kept;
    }

pub stopped_argument : (env : List Slot) (ctx : List Hyp) (arguments : List Argument) (index : ℕ) (done : List Tree) (old new newer : FuelState) (x : Argument)
    (s : Term) (stop : Stop) → index < length arguments → x ≡ get_or arguments index x → s ≡ argument_term x →
    IsUnderWay env ctx arguments index done old new → Meets {A = Tree} (Err stop) (left newer) (elab_with env ctx s new) →
    Meets {A = List Tree} (Err stop) (left newer) (arguments_with env ctx (arguments_of arguments) old)
stopped_argument env ctx arguments index done old new newer x s stop lt is term way met =
    let ran : Ran Tree = elab_with env ctx (argument_term x) new in
    let here : Meets {A = Tree} (Err stop) (left newer) ran = subst (λ t. Meets {A = Tree} (Err stop) (left newer) (elab_with env ctx t new)) term met in
    let rest : Tree → Run (List Tree) = λ u. elab_arguments env (calls_left new) ctx (done ++ u ∷ []) (arguments_of (drop (index + 1) arguments)) in
    meets_stop stop (left newer) ran rest _ (argument_front env ctx arguments index done old new x lt is way) here

none_behind : (env : List Slot) (calls : ℕ) (ctx : List Hyp) (done : List Tree) (l : ℕ) → elab_arguments env calls ctx done tree.NoArgument l ≡ pure done l
unfolding elab_arguments
none_behind env calls ctx done l = refl

pub last_argument : (env : List Slot) (ctx : List Hyp) (arguments : List Argument) (index : ℕ) (done : List Tree) (old new : FuelState) →
    length arguments ≤ index → IsUnderWay env ctx arguments index done old new →
    Meets (Ok done) (left new) (arguments_with env ctx (arguments_of arguments) old)
last_argument env ctx arguments index done old new past way =
    let all = way.same ∙ ap (λ xs. elab_arguments env (calls_left new) ctx done (arguments_of xs) (left new)) (drop_all index arguments past)
    ∙ none_behind env (calls_left new) ctx done (left new) in
    (sym (ap (λ w. w.answer) all), sym (ap (λ w. w.left) all))

pub first_argument : (env : List Slot) (ctx : List Hyp) (arguments : List Argument) (old : FuelState) → IsUnderWay env ctx arguments 0 [] old old
first_argument env ctx arguments old = record { same = refl; kept = record { limit = refl; nesting = refl; spent = omega arith } }

-- groups: those behind an index are still to be opened
pub record IsOpening (env : List Slot) (ctx : List Hyp) (groups : List Group) (index : ℕ) (inner : List Hyp) (old new : FuelState) : Type 0 where
  pub same : groups_with env ctx (groups_of groups) old ≡ open_groups env (calls_left new) inner (groups_of (drop index groups)) (left new)
  pub kept : IsSpentOf old new
  pub judged : MayJudge env inner

one_group : (env : List Slot) (calls : ℕ) (ctx : List Hyp) (g : Group) (gs : List Group) (l : ℕ) →
    open_groups env calls ctx (groups_of (g ∷ gs)) l
    ≡ (bound ctx g.names.items (elab env calls ctx g.ty.value) >>= (λ inner. open_groups env calls inner (groups_of gs))) l
unfolding open_groups
one_group env calls ctx g gs l = refl

group_front : (env : List Slot) (ctx : List Hyp) (groups : List Group) (index : ℕ) (inner : List Hyp) (old new : FuelState) (g : Group) →
    index < length groups → g ≡ get_or groups index g → IsOpening env ctx groups index inner old new →
    groups_with env ctx (groups_of groups) old
    ≡ (bound inner g.names.items (elab env (calls_left new) inner g.ty.value) >>= (λ more. open_groups env (calls_left new) more (groups_of (drop (index + 1) groups)))) (left new)
group_front env ctx groups index inner old new g lt is way =
    way.same ∙ ap (λ gs. open_groups env (calls_left new) inner (groups_of gs) (left new)) (at_index groups index g lt is)
    ∙ one_group env (calls_left new) inner g (drop (index + 1) groups) (left new)

pub next_group : (env : List Slot) (ctx : List Hyp) (groups : List Group) (index : ℕ) (inner more : List Hyp) (old new newer : FuelState) (g : Group) (ns : List BoundName) (s : Term) →
    index < length groups → g ≡ get_or groups index g → ns ≡ g.names.items → s ≡ g.ty.value → IsOpening env ctx groups index inner old new →
    Meets (Ok more) (left newer) (bound_with env inner ns s new) → IsSpentOf new newer → MayJudge env more →
    IsOpening env ctx groups (index + 1) more old newer
next_group env ctx groups index inner more old new newer g ns s lt is named typed way met kept judged =
    let one : Meets (Ok more) (left newer) (bound_with env inner g.names.items s new) = subst (λ x. Meets (Ok more) (left newer) (bound_with env inner x s new)) named met in
    let here : Meets (Ok more) (left newer) (bound_with env inner g.names.items g.ty.value new) = subst (λ x. Meets (Ok more) (left newer) (bound_with env inner g.names.items x new)) typed one in
    let rest : List Hyp → Run (List Hyp) = λ c. open_groups env (calls_left new) c (groups_of (drop (index + 1) groups)) in
    record {
      same =
          group_front env ctx groups index inner old new g lt is way
          ∙ goes_by more (left newer) (bound_with env inner g.names.items g.ty.value new) rest here.0 here.1
          ∙ ap (λ c. open_groups env c more (groups_of (drop (index + 1) groups)) (left newer)) (sym (calls_same new newer kept));
      kept = spent_twice old new newer way.kept kept;
      judged = judged;
    }

pub stopped_group : (env : List Slot) (ctx : List Hyp) (groups : List Group) (index : ℕ) (inner : List Hyp) (old new newer : FuelState) (g : Group) (ns : List BoundName) (s : Term) (stop : Stop) →
    index < length groups → g ≡ get_or groups index g → ns ≡ g.names.items → s ≡ g.ty.value → IsOpening env ctx groups index inner old new →
    Meets {A = List Hyp} (Err stop) (left newer) (bound_with env inner ns s new) →
    Meets {A = List Hyp} (Err stop) (left newer) (groups_with env ctx (groups_of groups) old)
stopped_group env ctx groups index inner old new newer g ns s stop lt is named typed way met =
    let one : Meets {A = List Hyp} (Err stop) (left newer) (bound_with env inner g.names.items s new) = subst (λ x. Meets {A = List Hyp} (Err stop) (left newer) (bound_with env inner x s new)) named met in
    let here : Meets {A = List Hyp} (Err stop) (left newer) (bound_with env inner g.names.items g.ty.value new) = subst (λ x. Meets {A = List Hyp} (Err stop) (left newer) (bound_with env inner g.names.items x new)) typed one in
    let rest : List Hyp → Run (List Hyp) = λ c. open_groups env (calls_left new) c (groups_of (drop (index + 1) groups)) in
    meets_stop stop (left newer) (bound_with env inner g.names.items g.ty.value new) rest _ (group_front env ctx groups index inner old new g lt is way) here

no_group : (env : List Slot) (calls : ℕ) (ctx : List Hyp) (l : ℕ) → open_groups env calls ctx tree.NoGroup l ≡ pure ctx l
unfolding open_groups
no_group env calls ctx l = refl

pub last_group : (env : List Slot) (ctx : List Hyp) (groups : List Group) (index : ℕ) (inner : List Hyp) (old new : FuelState) →
    length groups ≤ index → IsOpening env ctx groups index inner old new → Meets (Ok inner) (left new) (groups_with env ctx (groups_of groups) old)
last_group env ctx groups index inner old new past way =
    let all = way.same ∙ ap (λ gs. open_groups env (calls_left new) inner (groups_of gs) (left new)) (drop_all index groups past)
    ∙ no_group env (calls_left new) inner (left new) in
    (sym (ap (λ w. w.answer) all), sym (ap (λ w. w.left) all))

pub first_group : (env : List Slot) (ctx inner : List Hyp) (groups : List Group) (old : FuelState) → inner ≡ ctx → MayJudge env ctx →
    IsOpening env ctx groups 0 inner old old
first_group env ctx inner groups old e judged =
    let there : IsOpening env ctx groups 0 ctx old old =
    record { same = refl; kept = record { limit = refl; nesting = refl; spent = omega arith }; judged = judged } in
    subst (λ c. IsOpening env ctx groups 0 c old old) (sym e) there

let_is : (env : List Slot) (calls : ℕ) (ctx : List Hyp) (p : TokenPlace) (n : BoundName) (a : tree.Annotation) (q : TokenPlace) (v : Term) (r : TokenPlace) (b : Term)
    (f : FuelState) → let_with env ctx (bound_name n) a v b f ≡ elab_with env ctx (tree.Let p n a q v r b) f
unfolding elab
let_is env calls ctx p n tree.Untyped q v r b f = refl
let_is env calls ctx p n (tree.Typed o a) q v r b f = refl

-- a `let` with a type or without one
pub let_met : (env : List Slot) (ctx : List Hyp) (p : TokenPlace) (n : BoundName) (a : tree.Annotation) (q : TokenPlace) (v w : Term) (r : TokenPlace) (b d : Term)
    (f : FuelState) (s : Term) (answer : Result Tree Stop) (l : ℕ) → s ≡ tree.Let p n a q w r d → v ≡ w → b ≡ d →
    Meets answer l (let_with env ctx (bound_name n) a v b f) → Meets answer l (elab_with env ctx s f)
let_met env ctx p n a q v w r b d f s answer l whole valued bodied met =
    let one : Meets answer l (let_with env ctx (bound_name n) a w b f) = subst (λ x. Meets answer l (let_with env ctx (bound_name n) a x b f)) valued met in
    let two : Meets answer l (let_with env ctx (bound_name n) a w d f) = subst (λ x. Meets answer l (let_with env ctx (bound_name n) a w x f)) bodied one in
    let three : Meets answer l (elab_with env ctx (tree.Let p n a q w r d) f) = subst (λ ran. Meets answer l ran) (let_is env 0 ctx p n a q w r d f) two in
    subst (λ x. Meets answer l (elab_with env ctx x f)) (sym whole) three

-- what elaboration gives is in scope
pub inside_met : (env : List Slot) (ctx : List Hyp) (s : Term) (f : FuelState) (answer : Result Tree Stop) (l : ℕ) → IsEnvironment env → MayJudge env ctx →
    Meets answer l (elab_with env ctx s f) → IfOk answer (λ t. IsTermIn env ctx t)
inside_met env ctx s f (Ok t) l is judged met = (elab_inside env is (calls_left f) ctx s judged.scoped).tells (left f) t (sym met.0)
inside_met env ctx s f (Err stop) l is judged met = tt
