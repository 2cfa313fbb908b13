-- Each rule of the grammar is local.
use Rattle.std.proofs.Common.{◌≡◌, ℕ, zero, suc, ◌+◌, ◌≤◌, Bool, true, false, cond, List, [], ◌∷◌, length, refl, sym, ◌∙◌, ap, subst, arith}
use Rattle.coq_syntax.specs.declared.token.Token.{Token}
use Rattle.coq_syntax.specs.declared.words.TokenPlace.{TokenPlace}
use Rattle.coq_syntax.specs.declared.words.Word.{Word}
use Rattle.coq_syntax.specs.declared.words.BoundName.TheVariants.{Named, Unnamed}
use Rattle.coq_syntax.specs.Trees.{Term, Name, PropSort, SetSort, TypeSort, TypeAt, Numeral, Forall, Fun, Let, Groups, NoArgument, NoGroup}
use Rattle.coq_syntax.specs.Limits.{too_deep, too_great, no_level}
use Rattle.vernac_parser.specs.declared.sign.Sign.{Sign}
use Rattle.vernac_parser.specs.declared.sign.Sign.TheVariants as sign
use Rattle.vernac_parser.specs.Signs.{is_sign, sign_of, begins_atom, begins_open, begins_term}
use Rattle.vernac_parser.specs.Parser.{Parser, ◌>>=◌, pure, when, unexpected, place_of, word_of, taken, take, identifier, number, many}
use Rattle.vernac_parser.specs.Parse.{Rule, Whole, Right85, Right80, Right75, Checks, is_name, with_name, binder_name, names, Argument, Plain, Given, with_argument, with_group, assigns, type_sort, parenthesized, given, atom, argument_behind, argument, arguments, application, group, groups, binders, annotation, forall_form, fun_form, let_form, equal_behind, t70, operand, t75, and_behind, t80, or_behind, t85, arrow_behind, t99, open_form, term, by_rule, nested}
use Rattle.vernac_parser.proofs.SignLaws.{same_sign, is_same}
use Rattle.vernac_parser.proofs.Answered.{took, step_free}
use Rattle.vernac_parser.proofs.Local.{stop, Local, local_pure, local_refuse, local_bind, local_choose, local_taken, local_number}
use Rattle.vernac_parser.proofs.Taking.{TakesAt, Limit, Takes, moves, takes_bind, takes_first, takes_second, takes_taken, takes_number, takes_refuse, cut_le, local_many, local_repeated, local_look}

other_is_not : (s : Sign) → is_sign sign.Other s ≡ false → sign.Other ≡ s → ⊥
other_is_not s e k = let bad : true ≡ false = sym (is_same sign.Other s k) ∙ e in cc

-- an optional part that begins with this token
pub local_when : {A B : Type 0} (make : Token → A) (s : Sign) (f : A → Parser B) (q : Parser B) → is_sign sign.Other s ≡ false → ((x : A) → Local (f x)) → Local q → Local (when s (taken make s >>= f) q)
local_when make s f q e lf lq =
    local_choose (λ t. is_sign t s) (taken make s >>= f) q e
    (moves (λ t. is_sign t s) (taken make s >>= f) (λ t k i h. takes_bind Limit s (taken make s) f (takes_taken Limit s make (is_same s s refl) (other_is_not s e)) lf i (h ∙ same_sign t s k)))
    (local_bind (taken make s) f (local_taken make s) lf) lq

-- a rule that begins with this token
pub takes_sign : {A B : Type 0} (P : ℕ → Type 0) (make : Token → A) (s : Sign) (f : A → Parser B) → is_sign sign.Other s ≡ false → ((x : A) → Local (f x)) → TakesAt P s (taken make s >>= f)
takes_sign P make s f e lf = takes_bind P s (taken make s) f (takes_taken P s make (is_same s s refl) (other_is_not s e)) lf

pub only : {A : Type 0} (s : Sign) (p : Parser A) → TakesAt Limit s p → Takes (λ t. is_sign t s) p
only s p h t k = subst (λ x. TakesAt Limit x p) (sym (same_sign t s k)) h

too_great_is_a_limit : Limit too_great
too_great_is_a_limit e = omega (arith, e)

local_binder_name : Local binder_name
unfolding binder_name
local_binder_name = local_when place_of sign.Wildcard _ _ refl (λ p. local_pure _) (local_bind _ _ (local_taken word_of sign.Identifier) (λ w. local_pure _))

pub takes_name : Takes is_name binder_name
unfolding binder_name
takes_name sign.Identifier e = takes_second Limit sign.Identifier (λ t. is_sign t sign.Wildcard) _ _ refl (takes_sign Limit word_of sign.Identifier _ refl (λ w. local_pure (Named w)))
takes_name sign.Wildcard e = takes_first Limit sign.Wildcard (λ t. is_sign t sign.Wildcard) _ _ refl (takes_sign Limit place_of sign.Wildcard _ refl (λ w. local_pure (Unnamed w)))
takes_name _ e = absurd (let bad : false ≡ true = e in cc)

pub local_names : Local names
unfolding names
local_names = local_bind _ _ local_binder_name (λ first. local_bind _ _ (local_repeated is_name binder_name with_name [] refl takes_name local_binder_name) (λ others. local_pure _))

both : (b d : Bool) → cond b d false ≡ true → (b ≡ true) × (d ≡ true)
both true d e = (refl, e)
both false d e = absurd (let bad : false ≡ true = e in cc)

module _ (c : Checks) (inner : Rule → Parser Term) (li : (rule : Rule) → Local (inner rule)) (named : TakesAt (λ code. code ≡ 11) sign.Identifier (inner Whole)) where
  abbrev type_behind : TokenPlace → Parser Term
  type_behind p = when sign.At (do
    q ← take sign.At
    r ← take sign.OpenBrace
    w ← number c.level no_level
    s ← take sign.CloseBrace
    pure (TypeAt p q r w s)) (pure (TypeSort p))

  local_type_behind : (p : TokenPlace) → Local (type_behind p)
  local_type_behind p = local_when place_of sign.At _ _ refl (λ q. local_bind _ _ (local_taken place_of sign.OpenBrace) (λ r. local_bind _ _ (local_number c.level no_level) (λ w. local_bind _ _ (local_taken place_of sign.CloseBrace) (λ s. local_pure (TypeAt p q r w s))))) (local_pure (TypeSort p))

  local_type_sort : Local (type_sort c inner)
  unfolding type_sort
  local_type_sort = local_bind _ _ (local_taken place_of sign.TypeSort) local_type_behind

  local_parenthesized : (opening : TokenPlace) → Local (parenthesized c inner opening)
  unfolding parenthesized
  local_parenthesized opening = local_bind _ _ (li Whole) (λ t. local_bind _ _ (local_taken place_of sign.Close) (λ q. local_pure _))

  local_given : (opening : TokenPlace) → Local (given c inner opening)
  unfolding given
  local_given opening = local_bind _ _ (local_taken word_of sign.Identifier) (λ w. local_bind _ _ (local_taken place_of sign.Assign) (λ q. local_bind _ _ (li Whole) (λ t. local_bind _ _ (local_taken place_of sign.Close) (λ r. local_pure _))))

  local_atom : Local (atom c inner)
  unfolding atom
  local_atom =
      local_when word_of sign.Identifier _ _ refl (λ w. local_pure (Name w))
      (local_when place_of sign.Open _ _ refl (λ p. local_parenthesized p)
      (local_choose (λ t. is_sign t sign.Number) (number c.numeral too_great >>= (λ w. pure (Numeral w))) _ refl
      (moves (λ t. is_sign t sign.Number) _ (only sign.Number _ (takes_bind Limit sign.Number (number c.numeral too_great) _ (takes_number Limit c.numeral too_great too_great_is_a_limit) (λ w. local_pure (Numeral w)))))
      (local_bind _ _ (local_number c.numeral too_great) (λ w. local_pure (Numeral w)))
      (local_when place_of sign.PropSort _ _ refl (λ p. local_pure (PropSort p))
      (local_when place_of sign.SetSort _ _ refl (λ p. local_pure (SetSort p)) local_type_sort))))

  -- the value of an argument that is given by its name
  abbrev value : TokenPlace → Word → TokenPlace → Parser Argument
  value opening x q = inner Whole >>= (λ t. take sign.Close >>= (λ r. pure (Given opening x q t r)))

  local_value : (opening : TokenPlace) (x : Word) (q : TokenPlace) → Local (value opening x q)
  local_value opening x q = local_bind _ _ (li Whole) (λ t. local_bind _ _ (local_taken place_of sign.Close) (λ r. local_pure _))

  -- behind an identifier and `:=` both are taken
  given_far : (opening : TokenPlace) (i : List Token) → assigns i ≡ true → 2 + length (stop (given c inner opening i)) ≤ length i
  unfolding given
  given_far opening [] e = absurd (let bad : false ≡ true = e in cc)
  given_far opening (t ∷ []) e = absurd (let bad : false ≡ true = (both (is_sign (sign_of t) sign.Identifier) false e).1 in cc)
  given_far opening (t ∷ s ∷ w) e =
      let parts : (is_sign (sign_of t) sign.Identifier ≡ true) × (is_sign (sign_of s) sign.Assign ≡ true) = both (is_sign (sign_of t) sign.Identifier) (is_sign (sign_of s) sign.Assign) e in
      let same : given c inner opening (t ∷ s ∷ w) ≡ value opening (word_of t) (place_of s) w =
      step_free (identifier (t ∷ s ∷ w)) (λ x. take sign.Assign >>= (λ q. value opening x q)) (word_of t) (s ∷ w) (value opening (word_of t) (place_of s) w) (took _ _ parts.0)
      (step_free (take sign.Assign (s ∷ w)) (λ q. value opening (word_of t) q) (place_of s) w (value opening (word_of t) (place_of s) w) (took _ _ parts.1) refl) in
      let size : length (stop (given c inner opening (t ∷ s ∷ w))) ≡ length (stop (value opening (word_of t) (place_of s) w)) = ap (λ o. length (stop o)) same in
      omega (arith, cut_le (value opening (word_of t) (place_of s)) (local_value opening (word_of t) (place_of s)) w)

  local_argument_behind : (opening : TokenPlace) → Local (argument_behind c inner opening)
  unfolding argument_behind parenthesized
  local_argument_behind opening =
      local_look _ _ (local_given opening) (local_bind _ _ (local_parenthesized opening) (λ t. local_pure (Plain t))) (given_far opening)
      (takes_bind (λ code. code ≡ 11) sign.Identifier (parenthesized c inner opening) _ (takes_bind (λ code. code ≡ 11) sign.Identifier (inner Whole) _ named (λ t. local_bind _ _ (local_taken place_of sign.Close) (λ q. local_pure _))) (λ t. local_pure (Plain t)))

  local_argument : Local (argument c inner)
  unfolding argument
  local_argument = local_when place_of sign.Open _ _ refl (λ p. local_argument_behind p) (local_bind _ _ local_atom (λ t. local_pure (Plain t)))

  identifier_atom : (P : ℕ → Type 0) → TakesAt P sign.Identifier (atom c inner)
  unfolding atom
  identifier_atom P = takes_first P sign.Identifier (λ t. is_sign t sign.Identifier) _ _ refl (takes_sign P word_of sign.Identifier _ refl (λ w. local_pure (Name w)))

  takes_atom : Takes begins_atom (atom c inner)
  unfolding atom type_sort
  takes_atom sign.Identifier e = identifier_atom Limit
  takes_atom sign.Open e = takes_second Limit sign.Open (λ t. is_sign t sign.Identifier) _ _ refl (takes_first Limit sign.Open (λ t. is_sign t sign.Open) _ _ refl (takes_sign Limit place_of sign.Open _ refl (λ p. local_parenthesized p)))
  takes_atom sign.Number e = takes_second Limit sign.Number (λ t. is_sign t sign.Identifier) _ _ refl (takes_second Limit sign.Number (λ t. is_sign t sign.Open) _ _ refl (takes_first Limit sign.Number (λ t. is_sign t sign.Number) _ _ refl (takes_bind Limit sign.Number (number c.numeral too_great) _ (takes_number Limit c.numeral too_great too_great_is_a_limit) (λ w. local_pure (Numeral w)))))
  takes_atom sign.PropSort e = takes_second Limit sign.PropSort (λ t. is_sign t sign.Identifier) _ _ refl (takes_second Limit sign.PropSort (λ t. is_sign t sign.Open) _ _ refl (takes_second Limit sign.PropSort (λ t. is_sign t sign.Number) _ _ refl (takes_first Limit sign.PropSort (λ t. is_sign t sign.PropSort) _ _ refl (takes_sign Limit place_of sign.PropSort _ refl (λ p. local_pure (PropSort p))))))
  takes_atom sign.SetSort e = takes_second Limit sign.SetSort (λ t. is_sign t sign.Identifier) _ _ refl (takes_second Limit sign.SetSort (λ t. is_sign t sign.Open) _ _ refl (takes_second Limit sign.SetSort (λ t. is_sign t sign.Number) _ _ refl (takes_second Limit sign.SetSort (λ t. is_sign t sign.PropSort) _ _ refl (takes_first Limit sign.SetSort (λ t. is_sign t sign.SetSort) _ _ refl (takes_sign Limit place_of sign.SetSort _ refl (λ p. local_pure (SetSort p)))))))
  takes_atom sign.TypeSort e = takes_second Limit sign.TypeSort (λ t. is_sign t sign.Identifier) _ _ refl (takes_second Limit sign.TypeSort (λ t. is_sign t sign.Open) _ _ refl (takes_second Limit sign.TypeSort (λ t. is_sign t sign.Number) _ _ refl (takes_second Limit sign.TypeSort (λ t. is_sign t sign.PropSort) _ _ refl (takes_second Limit sign.TypeSort (λ t. is_sign t sign.SetSort) _ _ refl (takes_sign Limit place_of sign.TypeSort _ refl local_type_behind)))))
  takes_atom _ e = absurd (let bad : false ≡ true = e in cc)

  pub takes_argument : Takes begins_atom (argument c inner)
  unfolding argument
  takes_argument sign.Open e = takes_first Limit sign.Open (λ t. is_sign t sign.Open) _ _ refl (takes_sign Limit place_of sign.Open _ refl (λ p. local_argument_behind p))
  takes_argument sign.Identifier e = takes_second Limit sign.Identifier (λ t. is_sign t sign.Open) _ _ refl (takes_bind Limit sign.Identifier (atom c inner) _ (takes_atom sign.Identifier refl) (λ t. local_pure (Plain t)))
  takes_argument sign.Number e = takes_second Limit sign.Number (λ t. is_sign t sign.Open) _ _ refl (takes_bind Limit sign.Number (atom c inner) _ (takes_atom sign.Number refl) (λ t. local_pure (Plain t)))
  takes_argument sign.PropSort e = takes_second Limit sign.PropSort (λ t. is_sign t sign.Open) _ _ refl (takes_bind Limit sign.PropSort (atom c inner) _ (takes_atom sign.PropSort refl) (λ t. local_pure (Plain t)))
  takes_argument sign.SetSort e = takes_second Limit sign.SetSort (λ t. is_sign t sign.Open) _ _ refl (takes_bind Limit sign.SetSort (atom c inner) _ (takes_atom sign.SetSort refl) (λ t. local_pure (Plain t)))
  takes_argument sign.TypeSort e = takes_second Limit sign.TypeSort (λ t. is_sign t sign.Open) _ _ refl (takes_bind Limit sign.TypeSort (atom c inner) _ (takes_atom sign.TypeSort refl) (λ t. local_pure (Plain t)))
  takes_argument _ e = absurd (let bad : false ≡ true = e in cc)

  local_arguments : Local (arguments c inner)
  unfolding arguments
  local_arguments = local_repeated begins_atom (argument c inner) with_argument NoArgument refl takes_argument local_argument

  local_application : Local (application c inner)
  unfolding application
  local_application = local_bind _ _ local_atom (λ head. local_bind _ _ local_arguments (λ args. local_pure _))

  local_group : Local (group c inner)
  unfolding group
  local_group = local_bind _ _ (local_taken place_of sign.Open) (λ p. local_bind _ _ local_names (λ ns. local_bind _ _ (local_taken place_of sign.Colon) (λ q. local_bind _ _ (li Whole) (λ t. local_bind _ _ (local_taken place_of sign.Close) (λ r. local_pure _)))))

  pub takes_group : Takes (λ s. is_sign s sign.Open) (group c inner)
  unfolding group
  takes_group = only sign.Open _ (takes_sign Limit place_of sign.Open _ refl (λ p. local_bind _ _ local_names (λ ns. local_bind _ _ (local_taken place_of sign.Colon) (λ q. local_bind _ _ (li Whole) (λ t. local_bind _ _ (local_taken place_of sign.Close) (λ r. local_pure _))))))

  pub local_groups : Local (groups c inner)
  unfolding groups
  local_groups = local_repeated (λ s. is_sign s sign.Open) (group c inner) with_group NoGroup refl takes_group local_group

  takes_groups : TakesAt Limit sign.Open (groups c inner)
  unfolding groups many
  takes_groups i e = takes_first Limit sign.Open (λ s. is_sign s sign.Open) _ (pure NoGroup) refl (takes_bind Limit sign.Open (group c inner) _ (takes_group sign.Open refl) (λ g. local_bind _ _ (local_many (λ s. is_sign s sign.Open) (group c inner) with_group NoGroup refl takes_group local_group (length i)) (λ gs. local_pure (with_group g gs)))) i e

  local_binders : Local (binders c inner)
  unfolding binders
  local_binders = local_choose (λ t. is_sign t sign.Open) _ _ refl (moves (λ t. is_sign t sign.Open) _ (only sign.Open _ (takes_bind Limit sign.Open (groups c inner) _ takes_groups (λ gs. local_pure (Groups gs))))) (local_bind _ _ local_groups (λ gs. local_pure (Groups gs))) (local_bind _ _ local_names (λ ns. local_bind _ _ (local_taken place_of sign.Colon) (λ q. local_bind _ _ (li Whole) (λ t. local_pure _))))

  pub local_annotation : Local (annotation c inner)
  unfolding annotation
  local_annotation = local_when place_of sign.Colon _ _ refl (λ p. local_bind _ _ (li Whole) (λ t. local_pure _)) (local_pure _)

  behind_forall : (p : TokenPlace) → Local (binders c inner >>= (λ bs. take sign.Comma >>= (λ q. inner Whole >>= (λ b. pure (Forall p bs q b)))))
  behind_forall p = local_bind _ _ local_binders (λ bs. local_bind _ _ (local_taken place_of sign.Comma) (λ q. local_bind _ _ (li Whole) (λ b. local_pure _)))

  behind_fun : (p : TokenPlace) → Local (binders c inner >>= (λ bs. take sign.Yields >>= (λ q. inner Whole >>= (λ b. pure (Fun p bs q b)))))
  behind_fun p = local_bind _ _ local_binders (λ bs. local_bind _ _ (local_taken place_of sign.Yields) (λ q. local_bind _ _ (li Whole) (λ b. local_pure _)))

  behind_let : (p : TokenPlace) → Local (binder_name >>= (λ x. annotation c inner >>= (λ a. take sign.Assign >>= (λ q. inner Whole >>= (λ v. take sign.In >>= (λ s. inner Whole >>= (λ b. pure (Let p x a q v s b))))))))
  behind_let p = local_bind _ _ local_binder_name (λ x. local_bind _ _ local_annotation (λ a. local_bind _ _ (local_taken place_of sign.Assign) (λ q. local_bind _ _ (li Whole) (λ v. local_bind _ _ (local_taken place_of sign.In) (λ s. local_bind _ _ (li Whole) (λ b. local_pure _))))))

  local_open : Local (open_form c inner)
  unfolding open_form forall_form fun_form let_form
  local_open = local_when place_of sign.Forall _ _ refl behind_forall (local_when place_of sign.Fun _ _ refl behind_fun (local_bind _ _ (local_taken place_of sign.Let) behind_let))

  takes_open : Takes begins_open (open_form c inner)
  unfolding open_form forall_form fun_form let_form
  takes_open sign.Forall e = takes_first Limit sign.Forall (λ t. is_sign t sign.Forall) _ _ refl (takes_sign Limit place_of sign.Forall _ refl behind_forall)
  takes_open sign.Fun e = takes_second Limit sign.Fun (λ t. is_sign t sign.Forall) _ _ refl (takes_first Limit sign.Fun (λ t. is_sign t sign.Fun) _ _ refl (takes_sign Limit place_of sign.Fun _ refl behind_fun))
  takes_open sign.Let e = takes_second Limit sign.Let (λ t. is_sign t sign.Forall) _ _ refl (takes_second Limit sign.Let (λ t. is_sign t sign.Fun) _ _ refl (takes_sign Limit place_of sign.Let _ refl behind_let))
  takes_open _ e = absurd (let bad : false ≡ true = e in cc)

  local_operand : (rule : Rule) → Local (operand c inner rule)
  unfolding operand
  local_operand rule = local_choose begins_open _ _ refl (moves begins_open _ takes_open) local_open (li rule)

  local_equal_behind : (t : Term) → Local (equal_behind c inner t)
  unfolding equal_behind
  local_equal_behind t = local_when place_of sign.Equal _ _ refl (λ p. local_bind _ _ local_application (λ b. local_pure _)) (local_pure _)

  local_t70 : Local (t70 c inner)
  unfolding t70
  local_t70 = local_bind _ _ local_application local_equal_behind

  local_t75 : Local (t75 c inner)
  unfolding t75
  local_t75 = local_when place_of sign.Not _ _ refl (λ p. local_bind _ _ (local_operand Right75) (λ b. local_pure _)) local_t70

  local_and_behind : (t : Term) → Local (and_behind c inner t)
  unfolding and_behind
  local_and_behind t = local_when place_of sign.And _ _ refl (λ p. local_bind _ _ (local_operand Right80) (λ b. local_pure _)) (local_pure _)

  local_t80 : Local (t80 c inner)
  unfolding t80
  local_t80 = local_bind _ _ local_t75 local_and_behind

  local_or_behind : (t : Term) → Local (or_behind c inner t)
  unfolding or_behind
  local_or_behind t = local_when place_of sign.Or _ _ refl (λ p. local_bind _ _ (local_operand Right85) (λ b. local_pure _)) (local_pure _)

  local_t85 : Local (t85 c inner)
  unfolding t85
  local_t85 = local_bind _ _ local_t80 local_or_behind

  local_arrow_behind : (t : Term) → Local (arrow_behind c inner t)
  unfolding arrow_behind
  local_arrow_behind t = local_when place_of sign.Arrow _ _ refl (λ p. local_bind _ _ (li Whole) (λ b. local_pure _)) (local_pure _)

  local_t99 : Local (t99 c inner)
  unfolding t99
  local_t99 = local_bind _ _ local_t85 local_arrow_behind

  local_term : Local (term c inner)
  unfolding term
  local_term = local_choose begins_open _ _ refl (moves begins_open _ takes_open) local_open local_t99

  local_by_rule : (rule : Rule) → Local (by_rule c inner rule)
  unfolding by_rule
  local_by_rule Whole = local_term
  local_by_rule Right85 = local_t85
  local_by_rule Right80 = local_t80
  local_by_rule Right75 = local_t75

  -- an identifier begins a term, which takes it
  identifier_term : TakesAt (λ code. code ≡ 11) sign.Identifier (term c inner)
  unfolding term t99 t85 t80 t75 t70 application
  identifier_term =
      let P : ℕ → Type 0 = λ code. code ≡ 11 in
      takes_second P sign.Identifier begins_open _ _ refl
      (takes_bind P sign.Identifier _ _ (takes_bind P sign.Identifier _ _ (takes_bind P sign.Identifier _ _
      (takes_second P sign.Identifier (λ t. is_sign t sign.Not) _ _ refl
      (takes_bind P sign.Identifier _ _ (takes_bind P sign.Identifier _ _ (identifier_atom P) (λ head. local_bind _ _ local_arguments (λ args. local_pure _))) local_equal_behind))
      local_and_behind) local_or_behind) local_arrow_behind)

-- the rules one level down
mutual
  unfolding nested by_rule

  pub local_nested : (c : Checks) (n : ℕ) (rule : Rule) → Local (nested c n rule)
  local_nested c zero rule = local_choose begins_term _ _ refl (λ i e s k. omega (arith, k)) (local_refuse too_deep) (local_refuse unexpected)
  local_nested c (suc n) rule = local_by_rule c (nested c n) (local_nested c n) (identifier_nested c n) rule

  pub identifier_nested : (c : Checks) (n : ℕ) → TakesAt (λ code. code ≡ 11) sign.Identifier (nested c n Whole)
  identifier_nested c zero = takes_first (λ code. code ≡ 11) sign.Identifier begins_term _ _ refl (takes_refuse Term (λ code. code ≡ 11) sign.Identifier too_deep refl)
  identifier_nested c (suc n) = identifier_term c (nested c n) (local_nested c n) (identifier_nested c n)
