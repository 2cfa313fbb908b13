-- The refusals of elaboration stand at tokens of the tree, or at the whole sentence.
use Rattle.std.proofs.Common.{◌≡◌, ℕ, zero, suc, ◌^◌, ◌&&◌, nat_le, nat_lt, List, [], ◌∷◌, ◌++◌, length, take, codes, Bool, true, false, Option, Some, None, Result, Ok, Err, subst, slice_get}
use Rattle.std.specs.Prelude.{if◌then◌else◌}
use Rattle.base_core.specs.declared.refusals.Stop.{Stop}
use Rattle.base_core.specs.declared.refusals.Stop.TheVariants.{Out}
use Rattle.base_core.specs.declared.refusals.Limit.TheVariants.{SizeLimit}
use Rattle.base_core.specs.declared.refusal_codes.TheConstants.{ARGUMENT_MISSING, NO_LEVEL}
use Rattle.coq_syntax.specs.declared.token.Token.{Token}
use Rattle.coq_syntax.specs.declared.words.TokenPlace.{TokenPlace}
use Rattle.coq_syntax.specs.declared.words.Word.{Word}
use Rattle.coq_syntax.specs.declared.words.BoundName.{BoundName}
use Rattle.coq_syntax.specs.Faults.{value_of}
use Rattle.coq_syntax.specs.Limits.{greatest_level}
use Rattle.coq_syntax.specs.Spelled.{symbol, reserved, names, spells, binders, groups, annotation, arguments}
use Rattle.coq_syntax.specs.Trees.{Term, Forall, Fun, Let, Arrow, Or, And, Not, Equal, Apply, Name, PropSort, SetSort, TypeSort, TypeAt, Numeral, Parenthesized, Binders, Names, Groups, GroupList, NoGroup, Group, Annotation, Untyped, Typed, Arguments, NoArgument, Positional, Given}
use Rattle.core_term.specs.declared.sorts.Sort.TheVariants as sort
use Rattle.core_term.specs.Tree.{Tree, Constant, Sorted, Prod, App, LetIn, is_small}
use Rattle.core_term.specs.Places.{lift_of}
use Rattle.term_spine.specs.Spine.{variables_of}
use Rattle.cic_rules.specs.declared.context.Hyp.{Hyp}
use Rattle.cic_rules.specs.declared.env.Slot.{Slot}
use Rattle.cic_rules.specs.declared.judge.Inferred.{Inferred}
use Rattle.cic_rules.specs.Contexts.{plain_hyp}
use Rattle.cic_rules.specs.Environments.{place_in}
use Rattle.cic_rules.specs.Infer.{infer_at}
use Rattle.cic_rules.specs.Runs.{Run}
use Rattle.cic_rules.specs.Steps.{TooLarge, step_then, refuse_step}
use Rattle.elaborator.specs.declared.binders.Binding.{Binding}
use Rattle.elaborator.specs.declared.binders.Binding.TheVariants.{Product, Function}
use Rattle.elaborator.specs.Names.{token, unnamed, bound_name, constant_at, global, meaning, name, index_of, declared_type}
use Rattle.elaborator.specs.Parts.{sized, applied, times, number_of, successors, numeral, type_at, bind, closed, then_open, opened}
use Rattle.elaborator.specs.Arrangement.{has_named, product_of, free_seats, seat_at, take_by, take_seat, seated, positions, any_taken, filled, unseated, order_if_declared, order, picked}
use Rattle.elaborator.specs.Rows.{arrow, bound, binding, defined, operation, negation, equation}
use Rattle.elaborator.specs.Constructors.{applied_to_oldest, result_type, constructor_type}
use Rattle.elaborator.specs.Elab.{elab, elab_arguments, open_binders, open_groups}
use Rattle.vernac_exec.proofs.StandsLaws.{StopsAt, Stands, StepAt, step_at_then, stands_give, stands_pure, stands_step_of, stands_if, stands_hyp, stands_bind}
use Rattle.vernac_exec.proofs.StandsOfKernel.{at_infer}

-- each of the tokens stands so
abbrev pub AreAt : (ℕ → ℕ → Type 0) → List Token → Type 0
AreAt P [] = Unit {0}
AreAt P (t ∷ ts) = P t.from t.to × AreAt P ts

module _ (P : ℕ → ℕ → Type 0) where
  -- what stands behind the tokens of a part
  behind_names : (ns : List BoundName) (rest : List Token) → AreAt P (names ns rest) → AreAt P rest
  behind_names [] rest at = at
  behind_names (n ∷ ns) rest at = behind_names ns rest at.1

  mutual
    pub behind : (t : Term) (rest : List Token) → AreAt P (spells t rest) → AreAt P rest
    behind (Forall p bs q b) rest at = behind b rest (behind_binders bs (symbol (codes ",") q ∷ spells b rest) at.1).1
    behind (Fun p bs q b) rest at = behind b rest (behind_binders bs (symbol (codes "=>") q ∷ spells b rest) at.1).1
    behind (Let p n a q v r b) rest at =
        behind b rest (behind v (reserved (codes "in") r ∷ spells b rest) (behind_annotation a (symbol (codes ":=") q ∷ spells v (reserved (codes "in") r ∷ spells b rest)) at.1.1).1).1
    behind (Arrow a p b) rest at = behind b rest (behind a (symbol (codes "->") p ∷ spells b rest) at).1
    behind (Or a p b) rest at = behind b rest (behind a (symbol (codes "\\/") p ∷ spells b rest) at).1
    behind (And a p b) rest at = behind b rest (behind a (symbol (codes "/\\") p ∷ spells b rest) at).1
    behind (Not p a) rest at = behind a rest at.1
    behind (Equal a p b) rest at = behind b rest (behind a (symbol (codes "=") p ∷ spells b rest) at).1
    behind (Apply f args) rest at = behind_arguments args rest (behind f (arguments args rest) at)
    behind (Name w) rest at = at.1
    behind (PropSort p) rest at = at.1
    behind (SetSort p) rest at = at.1
    behind (TypeSort p) rest at = at.1
    behind (TypeAt p q r w s) rest at = at.1.1.1.1.1
    behind (Numeral w) rest at = at.1
    behind (Parenthesized p t q) rest at = (behind t (symbol (codes ")") q ∷ rest) at.1).1

    pub behind_binders : (bs : Binders) (rest : List Token) → AreAt P (binders bs rest) → AreAt P rest
    behind_binders (Names ns p t) rest at = behind t rest (behind_names ns (symbol (codes ":") p ∷ spells t rest) at).1
    behind_binders (Groups gs) rest at = behind_groups gs rest at

    pub behind_groups : (gs : GroupList) (rest : List Token) → AreAt P (groups gs rest) → AreAt P rest
    behind_groups NoGroup rest at = at
    behind_groups (Group p ns q t r after) rest at =
        behind_groups after rest
        (behind t (symbol (codes ")") r ∷ groups after rest) (behind_names ns (symbol (codes ":") q ∷ spells t (symbol (codes ")") r ∷ groups after rest)) at.1).1).1

    pub behind_annotation : (a : Annotation) (rest : List Token) → AreAt P (annotation a rest) → AreAt P rest
    behind_annotation Untyped rest at = at
    behind_annotation (Typed p t) rest at = behind t rest at.1

    pub behind_arguments : (args : Arguments) (rest : List Token) → AreAt P (arguments args rest) → AreAt P rest
    behind_arguments NoArgument rest at = at
    behind_arguments (Positional t after) rest at = behind_arguments after rest (behind t (arguments after rest) at)
    behind_arguments (Given p w q t r after) rest at =
        behind_arguments after rest (behind t (symbol (codes ")") r ∷ arguments after rest) at.1.1.1).1

  -- steps
  sized_by : (b : Bool) (t : Tree) → StepAt P (if b then Ok t else Err TooLarge)
  sized_by true t = tt
  sized_by false t = tt

  at_sized : (t : Tree) → StepAt P (sized t)
  at_sized t = sized_by (is_small t) t

  at_applied : (f : Tree) (ts : List Tree) → StepAt P (applied f ts)
  at_applied f [] = tt
  at_applied f (t ∷ ts) = step_at_then P (sized (App f t)) (λ g. applied g ts) (at_sized (App f t)) (λ g. at_applied g ts)

  pub at_closed : (kind : Binding) (hs : List Hyp) (t : Tree) → StepAt P (closed kind hs t)
  at_closed kind [] t = tt
  at_closed kind (h ∷ hs) t = step_at_then P (sized (bind kind h t)) (λ u. closed kind hs u) (at_sized (bind kind h t)) (λ u. at_closed kind hs u)

  constant_by : (place : TokenPlace) (found : Option ℕ) → P place.from place.to → StepAt P (constant_at place found)
  constant_by place None at = at
  constant_by place (Some c) at = tt

  at_global : (env : List Slot) (text : List ℕ) (place : TokenPlace) → P place.from place.to → StepAt P (global env text place)
  at_global env text place at = constant_by place (place_in env text) at

  meaning_by : (env : List Slot) (w : Word) (found : Option ℕ) → P w.place.from w.place.to → StepAt P (meaning env w found)
  meaning_by env w None at = at_global env w.text w.place at
  meaning_by env w (Some i) at = tt

  at_name : (env : List Slot) (ctx : List Hyp) (w : Word) → P w.place.from w.place.to → StepAt P (name env ctx w)
  at_name env ctx w at = meaning_by env w (index_of ctx w.text) at

  at_times : (n : ℕ) (f t : Tree) → StepAt P (times n f t)
  at_times zero f t = tt
  at_times (suc n) f t = step_at_then P (sized (App f t)) (λ u. times n f u) (at_sized (App f t)) (λ u. at_times n f u)

  at_successors : (env : List Slot) (place : TokenPlace) (n : ℕ) (t : Tree) → P place.from place.to → StepAt P (successors env place n t)
  at_successors env place zero t at = tt
  at_successors env place (suc n) t at =
      step_at_then P (global env (codes "S") place) (λ f. times (suc n) f t) (at_global env (codes "S") place at) (λ f. at_times (suc n) f t)

  at_numeral : (env : List Slot) (w : Word) → P w.place.from w.place.to → StepAt P (numeral env w)
  at_numeral env w at =
      step_at_then P (global env (codes "O") w.place) (λ t. successors env w.place (number_of w) t) (at_global env (codes "O") w.place at)
      (λ t. at_successors env w.place (number_of w) t at)

  level_by : (b : Bool) (w : Word) (t : Tree) → P w.place.from w.place.to → StepAt P (if b then Ok t else refuse_step NO_LEVEL (token w.place))
  level_by true w t at = tt
  level_by false w t at = at

  at_level : (w : Word) → P w.place.from w.place.to → StepAt P (type_at w)
  at_level w at = level_by (nat_le 1 (value_of w) && nat_le (value_of w) greatest_level) w (Sorted (sort.TypeSort (value_of w))) at

  -- the arrangement of arguments
  seat_by : (place : TokenPlace) (found : Option ℕ) → P place.from place.to → StepAt P (seat_at place found)
  seat_by place None at = at
  seat_by place (Some seat) at = tt

  take_at : (seats : List (Option ℕ)) (k : ℕ) (place : TokenPlace) (seat : ℕ) (found : Option (Option ℕ)) → P place.from place.to →
      StepAt P (take_by seats k place seat found)
  take_at seats k place seat None at = tt
  take_at seats k place seat (Some None) at = tt
  take_at seats k place seat (Some (Some other)) at = at

  at_seated : (ty : Tree) (seats : List (Option ℕ)) (k : ℕ) (args : Arguments) (rest : List Token) → AreAt P (arguments args rest) →
      StepAt P (seated ty seats k args)
  at_seated ty seats k NoArgument rest at = tt
  at_seated ty seats k (Positional t after) rest at = at_seated ty seats (suc k) after rest (behind t (arguments after rest) at)
  at_seated ty seats k (Given p w q t r after) rest at =
      step_at_then P (seat_at w.place (product_of ty w.text)) (λ seat. step_then (take_seat seats k w.place seat) (λ more. seated ty more (suc k) after))
      (seat_by w.place (product_of ty w.text) at.1.0)
      (λ seat. step_at_then P (take_seat seats k w.place seat) (λ more. seated ty more (suc k) after)
      (take_at seats k w.place seat (slice_get seats seat) at.1.0)
      (λ more. at_seated ty more (suc k) after rest (behind t (symbol (codes ")") r ∷ arguments after rest) at.1.1.1).1))

  missing_by : (b : Bool) (head : TokenPlace) (done : List ℕ) → P head.from head.to →
      StepAt P (if b then refuse_step ARGUMENT_MISSING (token head) else Ok done)
  missing_by true head done at = at
  missing_by false head done at = tt

  at_filled : (head : TokenPlace) (done : List ℕ) (seats : List (Option ℕ)) (ks : List ℕ) → P head.from head.to → StepAt P (filled head done seats ks)
  at_filled head done [] ks at = tt
  at_filled head done (Some k ∷ seats) ks at = at_filled head (done ++ k ∷ []) seats ks at
  at_filled head done (None ∷ seats) (k ∷ ks) at = at_filled head (done ++ k ∷ []) seats ks at
  at_filled head done (None ∷ seats) [] at = missing_by (any_taken seats) head done at

  at_unseated : (args : Arguments) (rest : List Token) → AreAt P (arguments args rest) → StepAt P (unseated args)
  at_unseated NoArgument rest at = tt
  at_unseated (Positional t after) rest at = at_unseated after rest (behind t (arguments after rest) at)
  at_unseated (Given p w q t r after) rest at = at.1.0

  declared_by : (head : TokenPlace) (found : Option Tree) (args : Arguments) (rest : List Token) → P head.from head.to → AreAt P (arguments args rest) →
      StepAt P (order_if_declared head found args)
  declared_by head None args rest first at = at_unseated args rest at
  declared_by head (Some ty) args rest first at =
      step_at_then P (seated ty (free_seats ty) 0 args) (λ seats. filled head [] seats (positions 0 args))
      (at_seated ty (free_seats ty) 0 args rest at) (λ seats. at_filled head [] seats (positions 0 args) first)

  at_order : (env : List Slot) (ctx : List Hyp) (f : Term) (args : Arguments) (rest : List Token) → AreAt P (spells f (arguments args rest)) →
      StepAt P (order env ctx f args)
  at_order env ctx (Name w) args rest at = declared_by w.place (declared_type env ctx w.text) args rest at.0 at.1
  at_order env ctx f args rest at = at_unseated args rest (behind f (arguments args rest) at)

  -- rows
  opened_by : (b : Bool) (ctx : List Hyp) (h : Hyp) (rest : List Hyp → Result (List Hyp) Stop) →
      ((inner : List Hyp) (stop : Stop) → rest inner ≡ Err stop → StopsAt P stop) → (stop : Stop) →
      then_open (if b then Ok (h ∷ ctx) else Err (Out SizeLimit)) rest ≡ Err stop → StopsAt P stop
  opened_by true ctx h rest more stop e = more (h ∷ ctx) stop e
  opened_by false ctx h rest more stop e = let same : Out SizeLimit ≡ stop = cc in subst (StopsAt P) same tt

  at_opened : (ctx : List Hyp) (ty : Tree) (k : ℕ) (ns : List BoundName) (stop : Stop) → opened ctx ty k ns ≡ Err stop → StopsAt P stop
  at_opened ctx ty k [] stop e = cc
  at_opened ctx ty k (n ∷ ns) stop e =
      opened_by (nat_lt (length ctx) (2 ^ 31)) ctx (plain_hyp (bound_name n) (lift_of ty k 0)) (λ inner. opened inner ty (suc k) ns)
      (λ inner other h. at_opened inner ty (suc k) ns other h) stop e

  at_bound : (ctx : List Hyp) (ns : List BoundName) {type : Run Tree} → Stands P type → Stands P (bound ctx ns type)
  at_bound ctx ns first = stands_bind first (λ ty. stands_give (opened ctx ty 0 ns) (at_opened ctx ty 0 ns))

  at_arrow : (ctx : List Hyp) {left : Run Tree} {right : List Hyp → Run Tree} → Stands P left → ((inner : List Hyp) → Stands P (right inner)) →
      Stands P (arrow ctx left right)
  at_arrow ctx one two =
      stands_bind one (λ a. stands_bind (stands_hyp ctx _) (λ inner. stands_bind (two inner) (λ b. stands_step_of P (sized (Prod unnamed a b)) (at_sized (Prod unnamed a b)))))

  pub at_binding : (kind : Binding) (ctx : List Hyp) {bs : Run (List Hyp)} {body : List Hyp → Run Tree} → Stands P bs →
      ((inner : List Hyp) → Stands P (body inner)) → Stands P (binding kind ctx bs body)
  at_binding kind ctx one two =
      stands_bind one (λ inner. stands_bind (two inner) (λ b. stands_step_of P (closed kind _ b) (at_closed kind _ b)))

  at_defined : (ctx : List Hyp) (n : List ℕ) (a t : Tree) {body : List Hyp → Run Tree} → ((inner : List Hyp) → Stands P (body inner)) →
      Stands P (defined ctx n a t body)
  at_defined ctx n a t more =
      stands_bind (stands_hyp ctx _) (λ inner. stands_bind (more inner) (λ b. stands_step_of P (sized (LetIn n a t b)) (at_sized (LetIn n a t b))))

  at_operation : (env : List Slot) (text : List ℕ) (sign : TokenPlace) {left right : Run Tree} → P sign.from sign.to → Stands P left → Stands P right →
      Stands P (operation env text left sign right)
  at_operation env text sign at one two =
      stands_bind one (λ a. stands_bind (stands_step_of P (global env text sign) (at_global env text sign at)) (λ f.
      stands_bind two (λ b. stands_step_of P (applied f (a ∷ b ∷ [])) (at_applied f (a ∷ b ∷ [])))))

  at_negation : (env : List Slot) (sign : TokenPlace) {operand : Run Tree} → P sign.from sign.to → Stands P operand → Stands P (negation env sign operand)
  at_negation env sign at one =
      stands_bind (stands_step_of P (global env (codes "not") sign) (at_global env (codes "not") sign at)) (λ f.
      stands_bind one (λ a. stands_step_of P (applied f (a ∷ [])) (at_applied f (a ∷ []))))

  at_equation : (env : List Slot) (infer : List Hyp → Tree → Run Inferred) (ctx : List Hyp) (sign : TokenPlace) {left right : Run Tree} →
      ((t : Tree) → Stands P (infer ctx t)) → P sign.from sign.to → Stands P left → Stands P right → Stands P (equation env infer ctx left sign right)
  at_equation env infer ctx sign infers at one two =
      stands_bind one (λ a. stands_bind (stands_step_of P (global env (codes "eq") sign) (at_global env (codes "eq") sign at)) (λ f.
      stands_bind (infers a) (λ i. stands_bind two (λ b. stands_step_of P (applied f (i.ty ∷ a ∷ b ∷ [])) (at_applied f (i.ty ∷ a ∷ b ∷ []))))))

  module _ (env : List Slot) (calls : ℕ) where
    infers : (ctx : List Hyp) (t : Tree) → Stands P (infer_at env calls ctx t)
    infers ctx t = at_infer P env calls ctx t

    mutual
      unfolding elab elab_arguments open_binders open_groups

      pub at_elab : (ctx : List Hyp) (s : Term) (rest : List Token) → AreAt P (spells s rest) → Stands P (elab env calls ctx s)
      at_elab ctx (Forall p bs q b) rest at =
          at_binding Product ctx (at_binders ctx bs (symbol (codes ",") q ∷ spells b rest) at.1)
          (λ inner. at_elab inner b rest (behind_binders bs (symbol (codes ",") q ∷ spells b rest) at.1).1)
      at_elab ctx (Fun p bs q b) rest at =
          at_binding Function ctx (at_binders ctx bs (symbol (codes "=>") q ∷ spells b rest) at.1)
          (λ inner. at_elab inner b rest (behind_binders bs (symbol (codes "=>") q ∷ spells b rest) at.1).1)
      at_elab ctx (Let p n Untyped q v r b) rest at =
          stands_bind (at_elab ctx v (reserved (codes "in") r ∷ spells b rest) at.1.1.1) (λ t. stands_bind (infers ctx t) (λ i.
          at_defined ctx (bound_name n) i.ty t (λ inner. at_elab inner b rest (behind v (reserved (codes "in") r ∷ spells b rest) at.1.1.1).1)))
      at_elab ctx (Let p n (Typed o a) q v r b) rest at =
          let later = (behind a (symbol (codes ":=") q ∷ spells v (reserved (codes "in") r ∷ spells b rest)) at.1.1.1).1 in
          stands_bind (at_elab ctx a (symbol (codes ":=") q ∷ spells v (reserved (codes "in") r ∷ spells b rest)) at.1.1.1) (λ ty.
          stands_bind (at_elab ctx v (reserved (codes "in") r ∷ spells b rest) later) (λ t.
          at_defined ctx (bound_name n) ty t (λ inner. at_elab inner b rest (behind v (reserved (codes "in") r ∷ spells b rest) later).1)))
      at_elab ctx (Arrow a p b) rest at =
          at_arrow ctx (at_elab ctx a (symbol (codes "->") p ∷ spells b rest) at)
          (λ inner. at_elab inner b rest (behind a (symbol (codes "->") p ∷ spells b rest) at).1)
      at_elab ctx (Or a p b) rest at =
          let later = behind a (symbol (codes "\\/") p ∷ spells b rest) at in
          at_operation env (codes "or") p later.0 (at_elab ctx a (symbol (codes "\\/") p ∷ spells b rest) at) (at_elab ctx b rest later.1)
      at_elab ctx (And a p b) rest at =
          let later = behind a (symbol (codes "/\\") p ∷ spells b rest) at in
          at_operation env (codes "and") p later.0 (at_elab ctx a (symbol (codes "/\\") p ∷ spells b rest) at) (at_elab ctx b rest later.1)
      at_elab ctx (Not p a) rest at = at_negation env p at.0 (at_elab ctx a rest at.1)
      at_elab ctx (Equal a p b) rest at =
          let later = behind a (symbol (codes "=") p ∷ spells b rest) at in
          at_equation env (infer_at env calls) ctx p (infers ctx) later.0 (at_elab ctx a (symbol (codes "=") p ∷ spells b rest) at) (at_elab ctx b rest later.1)
      at_elab ctx (Apply f args) rest at =
          let head = at_elab ctx f (arguments args rest) at in
          let values = at_arguments ctx [] args rest (behind f (arguments args rest) at) in
          stands_if (has_named args)
          (stands_bind head (λ g. stands_bind (stands_step_of P (order env ctx f args) (at_order env ctx f args rest at)) (λ ks.
          stands_bind values (λ ts. stands_step_of P (applied g (picked ts ks)) (at_applied g (picked ts ks))))))
          (stands_bind head (λ g. stands_bind values (λ ts. stands_step_of P (applied g ts) (at_applied g ts))))
      at_elab ctx (Name w) rest at = stands_step_of P (name env ctx w) (at_name env ctx w at.0)
      at_elab ctx (PropSort p) rest at = stands_pure (Sorted sort.PropSort)
      at_elab ctx (SetSort p) rest at = stands_pure (Sorted sort.SetSort)
      at_elab ctx (TypeSort p) rest at = stands_pure (Sorted (sort.TypeSort 1))
      at_elab ctx (TypeAt p q r w s) rest at = stands_step_of P (type_at w) (at_level w at.1.1.1.0)
      at_elab ctx (Numeral w) rest at = stands_step_of P (numeral env w) (at_numeral env w at.0)
      at_elab ctx (Parenthesized p t q) rest at = at_elab ctx t (symbol (codes ")") q ∷ rest) at.1

      at_arguments : (ctx : List Hyp) (done : List Tree) (args : Arguments) (rest : List Token) → AreAt P (arguments args rest) →
          Stands P (elab_arguments env calls ctx done args)
      at_arguments ctx done NoArgument rest at = stands_pure done
      at_arguments ctx done (Positional t after) rest at =
          stands_bind (at_elab ctx t (arguments after rest) at)
          (λ v. at_arguments ctx (done ++ v ∷ []) after rest (behind t (arguments after rest) at))
      at_arguments ctx done (Given p w q t r after) rest at =
          stands_bind (at_elab ctx t (symbol (codes ")") r ∷ arguments after rest) at.1.1.1)
          (λ v. at_arguments ctx (done ++ v ∷ []) after rest (behind t (symbol (codes ")") r ∷ arguments after rest) at.1.1.1).1)

      at_binders : (ctx : List Hyp) (bs : Binders) (rest : List Token) → AreAt P (binders bs rest) → Stands P (open_binders env calls ctx bs)
      at_binders ctx (Names ns p t) rest at = at_bound ctx ns (at_elab ctx t rest (behind_names ns (symbol (codes ":") p ∷ spells t rest) at).1)
      at_binders ctx (Groups gs) rest at = at_groups ctx gs rest at

      pub at_groups : (ctx : List Hyp) (gs : GroupList) (rest : List Token) → AreAt P (groups gs rest) → Stands P (open_groups env calls ctx gs)
      at_groups ctx NoGroup rest at = stands_pure ctx
      at_groups ctx (Group p ns q t r after) rest at =
          let inside = (behind_names ns (symbol (codes ":") q ∷ spells t (symbol (codes ")") r ∷ groups after rest)) at.1).1 in
          stands_bind (at_bound ctx ns (at_elab ctx t (symbol (codes ")") r ∷ groups after rest) inside))
          (λ inner. at_groups inner after rest (behind t (symbol (codes ")") r ∷ groups after rest) inside).1)

    at_result : (params : List Hyp) (place : ℕ) (a : Annotation) (rest : List Token) → AreAt P (annotation a rest) → (inner : List Hyp) →
        Stands P (result_type env calls params place a inner)
    at_result params place Untyped rest at inner =
        stands_step_of P (applied_to_oldest place (length params) (length inner))
        (at_applied (Constant place) (take (length params) (variables_of (length inner))))
    at_result params place (Typed p t) rest at inner = at_elab inner t rest at.1

    -- a constructor, where the type is there
    pub at_constructor : (params : List Hyp) (place : ℕ) (gs : GroupList) (a : Annotation) (rest : List Token) → AreAt P (groups gs (annotation a rest)) →
        Stands P (constructor_type env calls params place gs a)
    at_constructor params place gs a rest at =
        at_binding Product params (at_groups params gs (annotation a rest) at)
        (λ inner. at_result params place a rest (behind_groups gs (annotation a rest) at) inner)
