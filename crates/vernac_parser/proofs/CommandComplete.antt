-- The rules read every command, and so a token list has at most one.
use Rattle.std.proofs.Common.{◌≡◌, ℕ, zero, suc, ◌+◌, ◌<◌, ◌≤◌, true, false, Option, None, Some, Ok, Err, List, [], ◌∷◌, codes, length, refl, sym, ◌∙◌, ap, arith}
use Rattle.coq_syntax.specs.declared.token.Token.{Token}
use Rattle.coq_syntax.specs.declared.words.TokenPlace.{TokenPlace}
use Rattle.coq_syntax.specs.declared.words.Word.{Word}
use Rattle.coq_syntax.specs.declared.command.AssumptionWord.TheVariants as assumption
use Rattle.coq_syntax.specs.declared.command.StatementWord.TheVariants as statement
use Rattle.coq_syntax.specs.Trees.{GroupList, Annotation, Untyped, Typed}
use Rattle.coq_syntax.specs.CommandTrees.{Constructor, Command, Assume, Define, State, Inductive, Check, Proof, Qed, Defined, Admitted, Aborted}
use Rattle.coq_syntax.specs.Spelled as spelled
use Rattle.coq_syntax.specs.Spelled.{symbol, keyword, identifier, spells}
use Rattle.coq_syntax.specs.Grammar.{AreGroups, IsAnnotation}
use Rattle.coq_syntax.specs.Faults.{first}
use Rattle.coq_syntax.specs.Commands.{bar, constructors as spelled_constructors, IsBarred, AreBarred, AreConstructors, IsCommand, command_tokens}
use Rattle.vernac_parser.specs.declared.sign.Sign.TheVariants as sign
use Rattle.vernac_parser.specs.Signs.{is_sign, sign_at, symbol_sign, reserved_sign}
use Rattle.vernac_parser.specs.Parser.{Outcome, ◌>>=◌, pure, take, many, repeated}
use Rattle.vernac_parser.specs.Parse.{Whole, Checks, nested, groups, annotation}
use Rattle.coq_syntax.specs.CommandWords.{word_of_text}
use Rattle.vernac_parser.specs.ParseCommand.{begins_constructor, with_constructor, assume, define, state, constructor, barred, first_constructor, constructors, inductive, check, row, ended, command}
use Rattle.coq_syntax.specs.MeetsWhole.{OneCommand}
use Rattle.vernac_parser.proofs.SignLaws.{reach}
use Rattle.vernac_parser.proofs.Checked.{groups_fault_by, annotation_fault_by}
use Rattle.vernac_parser.proofs.Answered.{answered, step, step_sure, step_last, took, many_more, many_done}
use Rattle.vernac_parser.proofs.Longer.{longer_groups, longer_annotation}
use Rattle.vernac_parser.proofs.Tower.{inside}
use Rattle.vernac_parser.proofs.Complete.{complete_groups, complete_annotation}
use Rattle.vernac_parser.proofs.Unique.{complete_whole, loose}
use Rattle.vernac_parser.proofs.CommandFaults.{command_spells, spelled_alone, constructor_faults, constructors_faults, command_faults, checked, command_size, none_command}

-- what may follow an annotation that may be absent
pub record After (rest : List Token) : Type 0 where
  pub far : 99 < reach (sign_at rest)
  pub no_colon : is_sign (sign_at rest) sign.Colon ≡ false
  pub no_group : is_sign (sign_at rest) sign.Open ≡ false

annotation_begins : (a : Annotation) (rest : List Token) → is_sign (sign_at rest) sign.Open ≡ false → is_sign (sign_at (spelled.annotation a rest)) sign.Open ≡ false
unfolding symbol_sign
annotation_begins Untyped rest e = e
annotation_begins (Typed p t) rest e = refl

groups_read : (c : Checks) (n : ℕ) (gs : GroupList) (rest : List Token) → AreGroups gs → is_sign (sign_at rest) sign.Open ≡ false → groups c (nested c n) (spelled.groups gs rest) ≡ answered (groups_fault_by c gs n rest) gs rest
unfolding groups
groups_read c n gs rest h e = complete_groups c gs h (suc (length (spelled.groups gs rest))) n rest (omega (arith, longer_groups gs rest)) e

abbrev made : Option TokenPlace → Word → GroupList → Annotation → Constructor
made b x gs a = record { bar = b; name = x; groups = gs; annotation = a }

constructor_read : (c : Checks) (n : ℕ) (b : Option TokenPlace) (x : Word) (gs : GroupList) (a : Annotation) (rest : List Token) → AreGroups gs × IsAnnotation a → After rest → constructor c (nested c n) b (identifier x ∷ spelled.groups gs (spelled.annotation a rest)) ≡ answered (constructor_faults (checked c n) (made b x gs a) rest) (made b x gs a) rest
unfolding constructor
constructor_read c n b x gs a rest h f =
    step (groups c (nested c n) (spelled.groups gs (spelled.annotation a rest))) (λ gs'. annotation c (nested c n) >>= (λ a'. pure (made b x gs' a'))) (groups_fault_by c gs n (spelled.annotation a rest)) (annotation_fault_by c a n rest) gs (made b x gs a) (spelled.annotation a rest) rest (groups_read c n gs (spelled.annotation a rest) h.0 (annotation_begins a rest f.no_group))
    (step_last (annotation c (nested c n) (spelled.annotation a rest)) (λ a'. made b x gs a') (annotation_fault_by c a n rest) a rest (complete_annotation c a h.1 n rest f.far f.no_colon))

barred_read : (c : Checks) (n : ℕ) (b : Option TokenPlace) (x : Word) (gs : GroupList) (a : Annotation) (rest : List Token) → IsBarred b → AreGroups gs × IsAnnotation a → After rest → barred c (nested c n) (bar b (identifier x ∷ spelled.groups gs (spelled.annotation a rest))) ≡ answered (constructor_faults (checked c n) (made b x gs a) rest) (made b x gs a) rest
unfolding barred symbol_sign
barred_read c n None x gs a rest k h f = absurd k
barred_read c n (Some p) x gs a rest k h f = constructor_read c n (Some p) x gs a rest h f

first_read : (c : Checks) (n : ℕ) (b : Option TokenPlace) (x : Word) (gs : GroupList) (a : Annotation) (rest : List Token) → AreGroups gs × IsAnnotation a → After rest → first_constructor c (nested c n) (bar b (identifier x ∷ spelled.groups gs (spelled.annotation a rest))) ≡ answered (constructor_faults (checked c n) (made b x gs a) rest) (made b x gs a) rest
unfolding first_constructor symbol_sign
first_read c n None x gs a rest h f = constructor_read c n None x gs a rest h f
first_read c n (Some p) x gs a rest h f = barred_read c n (Some p) x gs a rest tt h f

bar_begins : (b : Option TokenPlace) (i : List Token) → IsBarred b → is_sign (sign_at (bar b i)) sign.Bar ≡ true
unfolding symbol_sign
bar_begins None i h = absurd h
bar_begins (Some p) i h = refl

after_bar : (b : Option TokenPlace) (i : List Token) → IsBarred b → After (bar b i)
unfolding symbol_sign
after_bar None i h = absurd h
after_bar (Some p) i h = record { far = omega arith; no_colon = refl; no_group = refl }

after_barred : (cs : List Constructor) → AreBarred cs → After (spelled_constructors cs [])
after_barred [] h = record { far = omega arith; no_colon = refl; no_group = refl }
after_barred (c ∷ cs) h = after_bar c.bar _ h.0

count : List Constructor → ℕ
count [] = 0
count (c ∷ cs) = suc (count cs)

bar_length : (b : Option TokenPlace) (i : List Token) → length i ≤ length (bar b i)
bar_length None i = omega arith
bar_length (Some p) i = omega arith

count_le : (cs : List Constructor) → count cs ≤ length (spelled_constructors cs [])
unfolding count
count_le [] = omega arith
count_le (c ∷ cs) = omega (arith, count_le cs, bar_length c.bar (identifier c.name ∷ spelled.groups c.groups (spelled.annotation c.annotation (spelled_constructors cs []))), longer_groups c.groups (spelled.annotation c.annotation (spelled_constructors cs [])), longer_annotation c.annotation (spelled_constructors cs []))

more_read : (c : Checks) (n : ℕ) (cs : List Constructor) (turns : ℕ) → AreBarred cs → count cs < turns → many (λ s. is_sign s sign.Bar) (barred c (nested c n)) with_constructor [] turns (spelled_constructors cs []) ≡ answered (constructors_faults (checked c n) cs []) cs []
unfolding count
more_read c n [] zero h l = absurd (omega arith)
more_read c n (x ∷ cs) zero h l = absurd (omega arith)
more_read c n [] (suc turns) h l = many_done (λ s. is_sign s sign.Bar) (barred c (nested c n)) with_constructor [] turns [] refl
more_read c n (x ∷ cs) (suc turns) h l =
    many_more (λ s. is_sign s sign.Bar) (barred c (nested c n)) with_constructor [] turns (spelled_constructors (x ∷ cs) []) (spelled_constructors cs []) [] (constructor_faults (checked c n) x (spelled_constructors cs [])) (constructors_faults (checked c n) cs []) x cs (bar_begins x.bar _ h.0)
    (barred_read c n x.bar x.name x.groups x.annotation (spelled_constructors cs []) h.0 h.1 (after_barred cs h.2))
    (more_read c n cs turns h.2 (omega arith))

first_begins : (b : Option TokenPlace) (x : Word) (i : List Token) → begins_constructor (sign_at (bar b (identifier x ∷ i))) ≡ true
unfolding symbol_sign
first_begins None x i = refl
first_begins (Some p) x i = refl

constructors_read : (c : Checks) (n : ℕ) (cs : List Constructor) → AreConstructors cs → constructors c (nested c n) (spelled_constructors cs []) ≡ answered (constructors_faults (checked c n) cs []) cs []
unfolding constructors
constructors_read c n [] h = refl
constructors_read c n (x ∷ cs) h =
    took _ _ (first_begins x.bar x.name _)
    ∙ step (first_constructor c (nested c n) (spelled_constructors (x ∷ cs) [])) (λ x'. repeated (λ s. is_sign s sign.Bar) (barred c (nested c n)) with_constructor [] >>= (λ cs'. pure (x' ∷ cs'))) (constructor_faults (checked c n) x (spelled_constructors cs [])) (constructors_faults (checked c n) cs []) x (x ∷ cs) (spelled_constructors cs []) [] (first_read c n x.bar x.name x.groups x.annotation (spelled_constructors cs []) h.0 (after_barred cs h.1))
    (step_last (repeated (λ s. is_sign s sign.Bar) (barred c (nested c n)) with_constructor [] (spelled_constructors cs [])) (λ cs'. x ∷ cs') (constructors_faults (checked c n) cs []) cs [] (more_read c n cs (suc (length (spelled_constructors cs []))) h.1 (omega (arith, count_le cs))))

-- each row at its tokens
pub row_read : (c : Checks) (n : ℕ) (t : Command) → IsCommand t → row c (nested c n) (command_spells t []) ≡ answered (command_faults (checked c n) t []) t []
unfolding row word_of_text assume define state inductive check symbol_sign reserved_sign
row_read c n (Assume assumption.Axiom p x q t) h = step_last (nested c n Whole (spells t [])) (λ y. Assume assumption.Axiom p x q y) (inside c n t []) t [] (complete_whole c n t [] h (omega arith))
row_read c n (Assume assumption.Parameter p x q t) h = step_last (nested c n Whole (spells t [])) (λ y. Assume assumption.Parameter p x q y) (inside c n t []) t [] (complete_whole c n t [] h (omega arith))
row_read c n (Define p x gs a q t) h =
    step (groups c (nested c n) (spelled.groups gs (spelled.annotation a (symbol (codes ":=") q ∷ spells t [])))) (λ gs'. annotation c (nested c n) >>= (λ a'. take sign.Assign >>= (λ q'. nested c n Whole >>= (λ t'. pure (Define p x gs' a' q' t'))))) (groups_fault_by c gs n (spelled.annotation a (symbol (codes ":=") q ∷ spells t []))) (first (annotation_fault_by c a n (symbol (codes ":=") q ∷ spells t [])) (inside c n t [])) gs (Define p x gs a q t) (spelled.annotation a (symbol (codes ":=") q ∷ spells t [])) [] (groups_read c n gs (spelled.annotation a (symbol (codes ":=") q ∷ spells t [])) h.0 (annotation_begins a (symbol (codes ":=") q ∷ spells t []) refl))
    (step (annotation c (nested c n) (spelled.annotation a (symbol (codes ":=") q ∷ spells t []))) (λ a'. take sign.Assign >>= (λ q'. nested c n Whole >>= (λ t'. pure (Define p x gs a' q' t')))) (annotation_fault_by c a n (symbol (codes ":=") q ∷ spells t [])) (inside c n t []) a (Define p x gs a q t) (symbol (codes ":=") q ∷ spells t []) [] (complete_annotation c a h.1 n (symbol (codes ":=") q ∷ spells t []) (omega arith) refl)
    (step_last (nested c n Whole (spells t [])) (λ y. Define p x gs a q y) (inside c n t []) t [] (complete_whole c n t [] h.2 (omega arith))))
row_read c n (State statement.Theorem p x gs q t) h =
    step (groups c (nested c n) (spelled.groups gs (symbol (codes ":") q ∷ spells t []))) (λ gs'. take sign.Colon >>= (λ q'. nested c n Whole >>= (λ t'. pure (State statement.Theorem p x gs' q' t')))) (groups_fault_by c gs n (symbol (codes ":") q ∷ spells t [])) (inside c n t []) gs (State statement.Theorem p x gs q t) (symbol (codes ":") q ∷ spells t []) [] (groups_read c n gs (symbol (codes ":") q ∷ spells t []) h.0 refl)
    (step_last (nested c n Whole (spells t [])) (λ y. State statement.Theorem p x gs q y) (inside c n t []) t [] (complete_whole c n t [] h.1 (omega arith)))
row_read c n (State statement.Lemma p x gs q t) h =
    step (groups c (nested c n) (spelled.groups gs (symbol (codes ":") q ∷ spells t []))) (λ gs'. take sign.Colon >>= (λ q'. nested c n Whole >>= (λ t'. pure (State statement.Lemma p x gs' q' t')))) (groups_fault_by c gs n (symbol (codes ":") q ∷ spells t [])) (inside c n t []) gs (State statement.Lemma p x gs q t) (symbol (codes ":") q ∷ spells t []) [] (groups_read c n gs (symbol (codes ":") q ∷ spells t []) h.0 refl)
    (step_last (nested c n Whole (spells t [])) (λ y. State statement.Lemma p x gs q y) (inside c n t []) t [] (complete_whole c n t [] h.1 (omega arith)))
row_read c n (Inductive p x gs q t r cs) h =
    step (groups c (nested c n) (spelled.groups gs (symbol (codes ":") q ∷ spells t (symbol (codes ":=") r ∷ spelled_constructors cs [])))) (λ gs'. take sign.Colon >>= (λ q'. nested c n Whole >>= (λ t'. take sign.Assign >>= (λ r'. constructors c (nested c n) >>= (λ cs'. pure (Inductive p x gs' q' t' r' cs')))))) (groups_fault_by c gs n (symbol (codes ":") q ∷ spells t (symbol (codes ":=") r ∷ spelled_constructors cs []))) (first (inside c n t (symbol (codes ":=") r ∷ spelled_constructors cs [])) (constructors_faults (checked c n) cs [])) gs (Inductive p x gs q t r cs) (symbol (codes ":") q ∷ spells t (symbol (codes ":=") r ∷ spelled_constructors cs [])) [] (groups_read c n gs (symbol (codes ":") q ∷ spells t (symbol (codes ":=") r ∷ spelled_constructors cs [])) h.0 refl)
    (step (nested c n Whole (spells t (symbol (codes ":=") r ∷ spelled_constructors cs []))) (λ t'. take sign.Assign >>= (λ r'. constructors c (nested c n) >>= (λ cs'. pure (Inductive p x gs q t' r' cs')))) (inside c n t (symbol (codes ":=") r ∷ spelled_constructors cs [])) (constructors_faults (checked c n) cs []) t (Inductive p x gs q t r cs) (symbol (codes ":=") r ∷ spelled_constructors cs []) [] (complete_whole c n t (symbol (codes ":=") r ∷ spelled_constructors cs []) h.1 (omega arith))
    (step_last (constructors c (nested c n) (spelled_constructors cs [])) (λ cs'. Inductive p x gs q t r cs') (constructors_faults (checked c n) cs []) cs [] (constructors_read c n cs h.2)))
row_read c n (Check p t) h = step_last (nested c n Whole (spells t [])) (λ y. Check p y) (inside c n t []) t [] (complete_whole c n t [] h (omega arith))
row_read c n (Proof p) h = refl
row_read c n (Qed p) h = refl
row_read c n (Defined p) h = refl
row_read c n (Admitted p) h = refl
row_read c n (Aborted p) h = refl

pub command_read : (c : Checks) (n : ℕ) (t : Command) → IsCommand t → command c (nested c n) (command_spells t []) ≡ answered (command_faults (checked c n) t []) t []
unfolding command
command_read c n t h = step_sure (row c (nested c n) (command_spells t [])) (λ y. ended >>= (λ _. pure y)) (command_faults (checked c n) t []) t t [] [] (row_read c n t h) refl

read_alone : (t : Command) (n : ℕ) → IsCommand t → command_size t < n → command loose (nested loose n) (command_tokens t) ≡ Ok (t, [])
read_alone t n h l = ap (command loose (nested loose n)) (sym (spelled_alone t)) ∙ command_read loose n t h ∙ ap (λ f. answered f t []) (none_command t n [] l)

command_of : Command → Outcome Command → Command
command_of t (Ok p) = p.0
command_of t (Err f) = t

pub one_command : OneCommand
unfolding command_of
one_command tokens a b f g =
    let n : ℕ = suc (command_size a + command_size b) in
    let same : Ok (a, []) ≡ Ok (b, []) = sym (read_alone a n f.0 (omega arith)) ∙ ap (command loose (nested loose n)) (f.1 ∙ sym g.1) ∙ read_alone b n g.0 (omega arith) in
    ap (command_of a) same
