-- Behind what was read, and at an unexpected token, no tree goes on; and a limit is passed in each tree.
use Rattle.std.proofs.Common.{◌≡◌, ℕ, zero, suc, ◌==◌, Bool, true, false, cond, Option, None, Some, Ok, Err, List, [], ◌∷◌, ◌++◌, length, ◌<◌, ◌≤◌, inl, inr, refl, sym, ◌∙◌, ap, subst, arith, append_assoc, append-nil, length-append}
use Rattle.coq_syntax.specs.declared.token.Token.{Token}
use Rattle.coq_syntax.specs.Trees.{Term, Forall, Fun, Let, Arrow, Or, And, Not, Equal, Apply, Name, PropSort, SetSort, TypeSort, TypeAt, Numeral, Parenthesized, Binders, Names, Groups, GroupList, NoGroup, Group, Annotation, Untyped, Typed, Arguments, NoArgument, Positional, Given}
use Rattle.coq_syntax.specs.Spelled.{spells}
use Rattle.coq_syntax.specs.Grammar.{level, IsTerm, IsTermOf}
use Rattle.coq_syntax.specs.Limits.{open_level, most_nested, too_deep}
use Rattle.coq_syntax.specs.Faults.{Fault, first, nested, value_of, fault, binders_fault, groups_fault, annotation_fault, arguments_fault, term_fault}
use Rattle.coq_syntax.specs.Refusals.{Outcome, unexpected}
use Rattle.vernac_parser.specs.Parse.{standard, Whole, whole_term}
use Rattle.coq_syntax.specs.Refusals.{IsBehind, IsAssigned, IsLongest, NoTree}
pub use Rattle.coq_syntax.proofs.OneRefusal.{equal_of, unequal_of}
use Rattle.vernac_parser.proofs.Answered.{answered}
use Rattle.vernac_parser.proofs.Unique.{complete_term}
use Rattle.vernac_parser.proofs.Local.{stop, moved, Grade, Same, One, Ended, Agrees, Allowed, Longer, longer, assigned_behind, either}
use Rattle.vernac_parser.proofs.LocalRules.{local_nested}

-- a tree's fault is none of an unexpected token
abbrev pub Sound : Option Fault → Type 0
Sound None = Unit {0}
Sound (Some f) = f.code ≡ unexpected → ⊥

pub sound_first : (f g : Option Fault) → Sound f → Sound g → Sound (first f g)
sound_first None g p q = q
sound_first (Some f) g p q = p

sound_nested : (n : ℕ) (f : ℕ → Option Fault) (start : List Token) → ((m : ℕ) → Sound (f m)) → Sound (nested n f start)
sound_nested zero f start h = λ e. omega (arith, e)
sound_nested (suc n) f start h = h n

sound_if : (b : Bool) (f g : Option Fault) → Sound f → Sound g → Sound (cond b f g)
sound_if true f g p q = p
sound_if false f g p q = q

mutual
  sound : (t : Term) (n : ℕ) (rest : List Token) → Sound (fault t n rest)
  sound (Forall p bs q b) n rest = sound_first _ _ (sound_binders bs n _) (sound_nested n _ _ (λ m. sound b m rest))
  sound (Fun p bs q b) n rest = sound_first _ _ (sound_binders bs n _) (sound_nested n _ _ (λ m. sound b m rest))
  sound (Let p x a q v r b) n rest = sound_first _ _ (sound_annotation a n _) (sound_first _ _ (sound_nested n _ _ (λ m. sound v m _)) (sound_nested n _ _ (λ m. sound b m rest)))
  sound (Arrow a p b) n rest = sound_first _ _ (sound a n _) (sound_nested n _ _ (λ m. sound b m rest))
  sound (Or a p b) n rest = sound_first _ _ (sound a n _) (sound_if (level b == open_level) _ _ (sound b n rest) (sound_nested n _ _ (λ m. sound b m rest)))
  sound (And a p b) n rest = sound_first _ _ (sound a n _) (sound_if (level b == open_level) _ _ (sound b n rest) (sound_nested n _ _ (λ m. sound b m rest)))
  sound (Not p a) n rest = sound_if (level a == open_level) _ _ (sound a n rest) (sound_nested n _ _ (λ m. sound a m rest))
  sound (Equal a p b) n rest = sound_first _ _ (sound a n _) (sound b n rest)
  sound (Apply f args) n rest = sound_first _ _ (sound f n _) (sound_arguments args n rest)
  sound (Name w) n rest = tt
  sound (PropSort p) n rest = tt
  sound (SetSort p) n rest = tt
  sound (TypeSort p) n rest = tt
  sound (TypeAt p q r w s) n rest = sound_if (standard.level (value_of w)) _ _ (λ e. omega (arith, e)) tt
  sound (Numeral w) n rest = sound_if (standard.numeral (value_of w)) _ _ (λ e. omega (arith, e)) tt
  sound (Parenthesized p t q) n rest = sound_nested n _ _ (λ m. sound t m _)

  sound_binders : (bs : Binders) (n : ℕ) (rest : List Token) → Sound (binders_fault bs n rest)
  sound_binders (Names ns p t) n rest = sound_nested n _ _ (λ m. sound t m rest)
  sound_binders (Groups gs) n rest = sound_groups gs n rest

  pub sound_groups : (gs : GroupList) (n : ℕ) (rest : List Token) → Sound (groups_fault gs n rest)
  sound_groups NoGroup n rest = tt
  sound_groups (Group p ns q t r after) n rest = sound_first _ _ (sound_nested n _ _ (λ m. sound t m _)) (sound_groups after n rest)

  pub sound_annotation : (a : Annotation) (n : ℕ) (rest : List Token) → Sound (annotation_fault a n rest)
  sound_annotation Untyped n rest = tt
  sound_annotation (Typed p t) n rest = sound_nested n _ _ (λ m. sound t m rest)

  sound_arguments : (args : Arguments) (n : ℕ) (rest : List Token) → Sound (arguments_fault args n rest)
  sound_arguments NoArgument n rest = tt
  sound_arguments (Positional t after) n rest = sound_first _ _ (sound t n _) (sound_arguments after n rest)
  sound_arguments (Given p w q t r after) n rest = sound_first _ _ (sound_nested n _ _ (λ m. sound t m _)) (sound_arguments after n rest)

pub term_sound : (t : Term) (rest : List Token) → Sound (term_fault t rest)
term_sound t rest = sound_nested most_nested (λ n. fault t n rest) (spells t rest) (λ m. sound t m rest)

-- what a tree's answer is not: an Ok with tokens left, or an unexpected token
abbrev pub Wrong : Outcome Term → Type 0
Wrong (Ok p) = p.1 ≡ [] → ⊥
Wrong (Err f) = f.code ≡ unexpected

ok_list : Outcome Term → List Token
ok_list (Ok p) = p.1
ok_list (Err f) = []

pub not_wrong : (f : Option Fault) (t : Term) → Sound f → Wrong (answered f t []) → ⊥
not_wrong None t s w = w refl
not_wrong (Some f) t s w = s w

-- the answer to a list with a tree, from that to one which is the same up to its place
same_answer : (g : Grade) (i u v v' : List Token) (t : Term) → i ≡ u ++ v → stop (whole_term i) ≡ v → Allowed g (whole_term i) → Agrees g v v' → IsTermOf (u ++ v') t → answered (term_fault t []) t [] ≡ moved v' (whole_term i)
same_answer g i u v v' t h s a k tree =
    sym (complete_term t [] tree.0 (omega arith)) ∙ (local_nested standard most_nested Whole).same g i (spells t []) u v v' h tree.1 s a k

-- an answer that an unexpected token or an Ok is
abbrev pub Plain : Outcome Term → Type 0
Plain (Ok p) = Unit {0}
Plain (Err f) = f.code ≡ unexpected

wrong_at : (o : Outcome Term) (next : Token) (more : List Token) → Plain o → Wrong (moved (next ∷ more) o)
wrong_at (Ok p) next more h = λ e. cc
wrong_at (Err f) next more h = h

plain_one : (o : Outcome Term) → Plain o → Allowed One o
plain_one (Ok p) h = tt
plain_one (Err f) h = λ e. omega (arith, e, h)

pub is_longest : (i u v : List Token) → i ≡ u ++ v → stop (whole_term i) ≡ v → Plain (whole_term i) → IsLongest IsTermOf u v
is_longest i u [] h s p = tt
is_longest i u (next ∷ w) h s p = λ begins.
    let tree : IsTermOf (u ++ next ∷ begins.0) begins.1 = (begins.2.0, begins.2.1 ∙ append_assoc u (next ∷ []) begins.0) in
    not_wrong (term_fault begins.1 []) begins.1 (term_sound begins.1 []) (subst Wrong (sym (same_answer One i u (next ∷ w) (next ∷ begins.0) begins.1 h s (plain_one (whole_term i) p) refl tree)) (wrong_at (whole_term i) next begins.0 p))

pub no_tree : (i u v : List Token) (f : Fault) → i ≡ u ++ v → whole_term i ≡ Err f → f.rest ≡ v → f.code ≡ unexpected → NoTree IsTermOf u
no_tree i u v f h o s c t tree =
    let whole : IsTermOf (u ++ []) t = (tree.0, tree.1 ∙ sym (append-nil u)) in
    not_wrong (term_fault t []) t (term_sound t []) (subst Wrong (sym (same_answer Ended i u v [] t h (ap stop o ∙ s) (subst (Allowed Ended) (sym o) c) refl whole ∙ ap (moved []) o)) c)

pub the_fault : (f : Option Fault) (t : Term) (g : Fault) → answered f t [] ≡ Err g → f ≡ Some g
the_fault None t g e = cc
the_fault (Some f) t g e = cc

-- a limit is passed in each tree that begins so
pub each_limit : (i u w : List Token) (next : Token) (f : Fault) → i ≡ u ++ next ∷ w → whole_term i ≡ Err f → f.rest ≡ next ∷ w → (others : List Token) (t : Term) → IsTermOf (u ++ next ∷ others) t → (f.code ≡ too_deep → IsAssigned others → IsAssigned w) → term_fault t [] ≡ Some (record { code = f.code; rest = next ∷ others })
each_limit i u w next f h o s others t tree deep = by (f.code == too_deep) refl
  where
    by : (b : Bool) → (f.code == too_deep) ≡ b → term_fault t [] ≡ Some (record { code = f.code; rest = next ∷ others })
    by true e = the_fault (term_fault t []) t _ (same_answer Same i u (next ∷ w) (next ∷ others) t h (ap stop o ∙ s) (subst (Allowed Same) (sym o) tt) (refl, deep (equal_of f.code too_deep e)) tree ∙ ap (moved (next ∷ others)) o)
    by false e = the_fault (term_fault t []) t _ (same_answer One i u (next ∷ w) (next ∷ others) t h (ap stop o ∙ s) (subst (Allowed One) (sym o) (unequal_of f.code too_deep e)) refl tree ∙ ap (moved (next ∷ others)) o)

-- before an unexpected token there is no fault in any tree that begins so
pub faults_behind : (i u rest : List Token) (f : Fault) → i ≡ u ++ rest → whole_term i ≡ Err f → f.code ≡ unexpected → (others : List Token) (t : Term) → IsTermOf (u ++ others) t → (IsAssigned rest → IsAssigned others) → IsBehind (length others) (term_fault t [])
faults_behind i u rest f h o c others t tree assigned = by (term_fault t []) refl (term_sound t [])
  where
    there : whole_term (u ++ others) ≡ answered (term_fault t []) t []
    there = ap whole_term (sym tree.1) ∙ complete_term t [] tree.0 (omega arith)

    code_of : Outcome Term → ℕ
    code_of (Ok p) = 0
    code_of (Err f) = f.code

    inside : (g : Fault) → whole_term (u ++ others) ≡ Err g → (g.code ≡ unexpected → ⊥) → length others < length g.rest → ⊥
    inside g e sound l =
        let cut : (u' : List Token) × (u ++ others ≡ u' ++ stop (whole_term (u ++ others))) = (local_nested standard most_nested Whole).cut (u ++ others) in
        let parts : Longer u others cut.0 g.rest = longer u others cut.0 g.rest (cut.1 ∙ ap (λ x. cut.0 ++ stop x) e) l in
        let moved_there : whole_term i ≡ moved (parts.first ∷ (parts.back ++ rest)) (whole_term (u ++ others)) =
        (local_nested standard most_nested Whole).same Same (u ++ others) i cut.0 (parts.first ∷ (parts.back ++ others)) (parts.first ∷ (parts.back ++ rest)) (cut.1 ∙ ap (λ x. cut.0 ++ stop x) e ∙ ap (λ w. cut.0 ++ w) parts.last) (h ∙ ap (λ w. w ++ rest) parts.whole ∙ append_assoc cut.0 (parts.first ∷ parts.back) rest) (ap stop e ∙ parts.last) (subst (Allowed Same) (sym e) tt) (refl, assigned_behind parts.back rest others assigned) in
        let bad : Err f ≡ moved (parts.first ∷ (parts.back ++ rest)) (Err g) = sym o ∙ moved_there ∙ ap (moved (parts.first ∷ (parts.back ++ rest))) e in
        sound (sym (ap code_of bad) ∙ c)

    by : (k : Option Fault) → term_fault t [] ≡ k → Sound k → IsBehind (length others) k
    by None e sound = tt
    by (Some g) e sound = elim (either (length g.rest) (length others)) as (λ _. length g.rest ≤ length others) [ inl l ↦ l | inr l ↦ absurd (inside g (there ∙ ap (λ k. answered k t []) e) sound l) ]

-- a term's fault stands at one of its tokens
pub fault_within : (t : Term) → IsTerm t → IsBehind (length (spells t [])) (term_fault t [])
fault_within t h = by (term_fault t []) refl
  where
    by : (k : Option Fault) → term_fault t [] ≡ k → IsBehind (length (spells t [])) k
    by None e = tt
    by (Some g) e =
        let answer : whole_term (spells t []) ≡ Err g = complete_term t [] h (omega arith) ∙ ap (λ k. answered k t []) e in
        let cut : (u : List Token) × (spells t [] ≡ u ++ stop (whole_term (spells t []))) = (local_nested standard most_nested Whole).cut (spells t []) in
        let parts : length (spells t []) ≡ length (cut.0 ++ g.rest) = ap length (cut.1 ∙ ap (λ o. cut.0 ++ stop o) answer) in
        omega (arith, parts, length-append cut.0 g.rest)
