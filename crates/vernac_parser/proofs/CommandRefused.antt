-- At a refusal no command goes on, and a limit is passed in each command that begins so.
use Rattle.std.proofs.Common.{◌≡◌, ℕ, ◌==◌, Bool, true, false, Option, None, Some, Ok, Err, List, [], ◌∷◌, ◌++◌, length, ◌<◌, ◌≤◌, inl, inr, refl, sym, ◌∙◌, ap, subst, arith, append_assoc, append-nil}
use Rattle.coq_syntax.specs.declared.token.Token.{Token}
use Rattle.coq_syntax.specs.CommandTrees.{Command}
use Rattle.coq_syntax.specs.Limits.{most_nested, too_deep}
use Rattle.coq_syntax.specs.Faults.{Fault}
use Rattle.coq_syntax.specs.Commands.{IsCommandOf, command_fault}
use Rattle.vernac_parser.specs.Parser.{Outcome, and_then, pure, unexpected}
use Rattle.vernac_parser.specs.Parse.{standard, nested}
use Rattle.vernac_parser.specs.ParseCommand.{row, ended, command, whole_command}
use Rattle.coq_syntax.specs.Refusals.{IsBehind, IsAssigned, IsLongest, NoTree}
use Rattle.vernac_parser.proofs.Answered.{answered}
use Rattle.vernac_parser.proofs.Local.{stop, moved, Grade, Same, One, Ended, Agrees, Fits, Allowed, Longer, longer, assigned_behind, either}
use Rattle.vernac_parser.proofs.Refused.{Sound, equal_of, unequal_of}
use Rattle.vernac_parser.proofs.CommandFaults.{spelled_alone, fault_alone, standard_command, sound_command}
use Rattle.vernac_parser.proofs.CommandComplete.{command_read}
use Rattle.vernac_parser.proofs.CommandLocal.{local_row}

complete_command : (t : Command) (tokens : List Token) → IsCommandOf tokens t → whole_command tokens ≡ answered (command_fault t) t []
complete_command t tokens h =
    ap whole_command (sym h.1 ∙ sym (spelled_alone t)) ∙ command_read standard most_nested t h.0 ∙ ap (λ f. answered f t []) (standard_command t [] ∙ fault_alone t)

sound_fault : (t : Command) → Sound (command_fault t)
sound_fault t = subst Sound (fault_alone t) (sound_command t [])

-- a row, and then the end
abbrev the_row : List Token → Outcome Command
the_row = row standard (nested standard most_nested)

abbrev finish : Command → List Token → Outcome Command
finish y i = and_then (ended i) (λ _. pure y)

whole_row : (i : List Token) → whole_command i ≡ and_then (the_row i) finish
unfolding command
whole_row i = refl

-- the tokens behind a place where a token stands
Filled : Grade → Type 0
Filled Same = Unit {0}
Filled One = Unit {0}
Filled Ended = ⊥

refusal : ℕ → List Token → Outcome Command
refusal code rest = Err (record { code = code; rest = rest })

left_refused : (g : Grade) (y : Command) (r v' : List Token) (f : Fault) → Filled g → finish y r ≡ Err f → Agrees g r v' → finish y v' ≡ refusal f.code v'
unfolding Filled refusal
left_refused g y [] v' f k e a = absurd (cc)
left_refused Same y (t ∷ w) [] f k e a = absurd (let size : 1 ≡ 0 = ap length a.0 in omega arith)
left_refused One y (t ∷ w) [] f k e a = absurd (let size : 1 ≡ 0 = ap length a in omega arith)
left_refused Ended y (t ∷ w) v' f k e a = absurd k
left_refused Same y (t ∷ w) (t' ∷ w') f k e a = let c : unexpected ≡ f.code = ap (code_of) e in ap (λ c. refusal c (t' ∷ w')) c
  where
    code_of : Outcome Command → ℕ
    code_of (Ok p) = 0
    code_of (Err f) = f.code
left_refused One y (t ∷ w) (t' ∷ w') f k e a = let c : unexpected ≡ f.code = ap (code_of) e in ap (λ c. refusal c (t' ∷ w')) c
  where
    code_of : Outcome Command → ℕ
    code_of (Ok p) = 0
    code_of (Err f) = f.code

rest_of : Outcome Command → List Token
rest_of (Ok p) = p.1
rest_of (Err f) = f.rest

finish_rest : (y : Command) (r : List Token) (f : Fault) → finish y r ≡ Err f → f.rest ≡ r
unfolding rest_of
finish_rest y [] f e = absurd (cc)
finish_rest y (t ∷ w) f e = let k : t ∷ w ≡ f.rest = ap rest_of e in sym k

-- a refusal of a list, from that to one which is the same up to its place
same_refusal : (g : Grade) (i i' u v v' : List Token) (f : Fault) (o : Outcome Command) → Filled g → the_row i ≡ o → and_then o finish ≡ Err f → i ≡ u ++ v → i' ≡ u ++ v' → f.rest ≡ v → Fits g f.code → Agrees g v v' → whole_command i' ≡ refusal f.code v'
unfolding refusal
same_refusal g i i' u v v' f (Err e) k o w h h' s a b =
    let same : f ≡ e = cc in
    let there : the_row i' ≡ moved v' (the_row i) = (local_row standard most_nested).same g i i' u v v' h h' (ap stop o ∙ ap (λ x. x.rest) (sym same) ∙ s) (subst (Allowed g) (sym o) (subst (λ x. Fits g x.code) same a)) b in
    whole_row i' ∙ ap (λ x. and_then x finish) (there ∙ ap (moved v') o) ∙ ap (λ x. refusal x.code v') (sym same)
same_refusal g i i' u v v' f (Ok (y, r)) k o w h h' s a b =
    let r_is : r ≡ v = sym (finish_rest y r f w) ∙ s in
    let there : the_row i' ≡ moved v' (the_row i) = (local_row standard most_nested).same g i i' u v v' h h' (ap stop o ∙ r_is) (subst (Allowed g) (sym o) tt) b in
    whole_row i' ∙ ap (λ x. and_then x finish) (there ∙ ap (moved v') o) ∙ left_refused g y r v' f k w (subst (λ x. Agrees g x v') (sym r_is) b)

refused_same : (g : Grade) (i i' u v v' : List Token) (f : Fault) → Filled g → whole_command i ≡ Err f → i ≡ u ++ v → i' ≡ u ++ v' → f.rest ≡ v → Fits g f.code → Agrees g v v' → whole_command i' ≡ refusal f.code v'
refused_same g i i' u v v' f k o h h' s a b = same_refusal g i i' u v v' f (the_row i) k refl (sym (whole_row i) ∙ o) h h' s a b

no_command : (f : Option Fault) (t : Command) (v : List Token) → Sound f → answered f t [] ≡ refusal unexpected v → ⊥
unfolding refusal
no_command None t v s e = cc
no_command (Some g) t v s e = s (ap code_of e)
  where
    code_of : Outcome Command → ℕ
    code_of (Ok p) = 0
    code_of (Err f) = f.code

pub is_longest : (i u v : List Token) (f : Fault) → i ≡ u ++ v → whole_command i ≡ Err f → f.rest ≡ v → f.code ≡ unexpected → IsLongest IsCommandOf u v
unfolding Filled
is_longest i u [] f h o s c = tt
is_longest i u (next ∷ w) f h o s c = λ begins.
    let tree : IsCommandOf (u ++ next ∷ begins.0) begins.1 = (begins.2.0, begins.2.1 ∙ append_assoc u (next ∷ []) begins.0) in
    no_command (command_fault begins.1) begins.1 (next ∷ begins.0) (sound_fault begins.1) (sym (complete_command begins.1 (u ++ next ∷ begins.0) tree) ∙ refused_same One i (u ++ next ∷ begins.0) u (next ∷ w) (next ∷ begins.0) f tt o h refl s (λ e. omega (arith, e, c)) refl ∙ ap (λ k. refusal k (next ∷ begins.0)) c)

pub no_command_at_end : (i u : List Token) (f : Fault) → i ≡ u ++ [] → whole_command i ≡ Err f → f.code ≡ unexpected → NoTree IsCommandOf u
unfolding refusal
no_command_at_end i u f h o c t tree =
    no_command (command_fault t) t f.rest (sound_fault t) (sym (complete_command t u tree) ∙ ap whole_command (sym (append-nil u) ∙ sym h) ∙ o ∙ ap (λ k. refusal k f.rest) c)

the_fault : (f : Option Fault) (t : Command) (code : ℕ) (rest : List Token) → answered f t [] ≡ refusal code rest → f ≡ Some (record { code = code; rest = rest })
unfolding refusal
the_fault None t code rest e = cc
the_fault (Some f) t code rest e = cc

pub each_limit : (i u w : List Token) (next : Token) (f : Fault) → i ≡ u ++ next ∷ w → whole_command i ≡ Err f → f.rest ≡ next ∷ w → (others : List Token) (t : Command) → IsCommandOf (u ++ next ∷ others) t → (f.code ≡ too_deep → IsAssigned others → IsAssigned w) → command_fault t ≡ Some (record { code = f.code; rest = next ∷ others })
unfolding Filled
each_limit i u w next f h o s others t tree deep = by (f.code == too_deep) refl
  where
    by : (b : Bool) → (f.code == too_deep) ≡ b → command_fault t ≡ Some (record { code = f.code; rest = next ∷ others })
    by true e = the_fault (command_fault t) t f.code (next ∷ others) (sym (complete_command t (u ++ next ∷ others) tree) ∙ refused_same Same i (u ++ next ∷ others) u (next ∷ w) (next ∷ others) f tt o h refl s tt (refl, deep (equal_of f.code too_deep e)))
    by false e = the_fault (command_fault t) t f.code (next ∷ others) (sym (complete_command t (u ++ next ∷ others) tree) ∙ refused_same One i (u ++ next ∷ others) u (next ∷ w) (next ∷ others) f tt o h refl s (unequal_of f.code too_deep e) refl)

-- what was read stands before the refusal
row_cut : (i : List Token) (f : Fault) (o : Outcome Command) → the_row i ≡ o → and_then o finish ≡ Err f → (u : List Token) × (i ≡ u ++ f.rest)
row_cut i f (Err e) o w = let same : e ≡ f = cc in (((local_row standard most_nested).cut i).0, ((local_row standard most_nested).cut i).1 ∙ ap (λ x. ((local_row standard most_nested).cut i).0 ++ stop x) o ∙ ap (λ x. ((local_row standard most_nested).cut i).0 ++ x.rest) same)
row_cut i f (Ok (y, r)) o w = (((local_row standard most_nested).cut i).0, ((local_row standard most_nested).cut i).1 ∙ ap (λ x. ((local_row standard most_nested).cut i).0 ++ stop x) o ∙ ap (λ x. ((local_row standard most_nested).cut i).0 ++ x) (sym (finish_rest y r f w)))

-- before an unexpected token there is no fault in any command that begins so
pub faults_behind : (i u rest : List Token) (f : Fault) → i ≡ u ++ rest → whole_command i ≡ Err f → f.code ≡ unexpected → (others : List Token) (t : Command) → IsCommandOf (u ++ others) t → (IsAssigned rest → IsAssigned others) → IsBehind (length others) (command_fault t)
unfolding Filled refusal
faults_behind i u rest f h o c others t tree assigned = by (command_fault t) refl (sound_fault t)
  where
    code_of : Outcome Command → ℕ
    code_of (Ok p) = 0
    code_of (Err f) = f.code

    inside : (g : Fault) → whole_command (u ++ others) ≡ Err g → (g.code ≡ unexpected → ⊥) → length others < length g.rest → ⊥
    inside g e sound l =
        let cut : (u' : List Token) × (u ++ others ≡ u' ++ g.rest) = row_cut (u ++ others) g (the_row (u ++ others)) refl (sym (whole_row (u ++ others)) ∙ e) in
        let parts : Longer u others cut.0 g.rest = longer u others cut.0 g.rest cut.1 l in
        let there : whole_command i ≡ refusal g.code (parts.first ∷ (parts.back ++ rest)) =
        refused_same Same (u ++ others) i cut.0 (parts.first ∷ (parts.back ++ others)) (parts.first ∷ (parts.back ++ rest)) g tt e (cut.1 ∙ ap (λ w. cut.0 ++ w) parts.last) (h ∙ ap (λ w. w ++ rest) parts.whole ∙ append_assoc cut.0 (parts.first ∷ parts.back) rest) parts.last tt (refl, assigned_behind parts.back rest others assigned) in
        let bad : Err f ≡ refusal g.code (parts.first ∷ (parts.back ++ rest)) = sym o ∙ there in
        sound (sym (ap code_of bad) ∙ c)

    by : (k : Option Fault) → command_fault t ≡ k → Sound k → IsBehind (length others) k
    by None e sound = tt
    by (Some g) e sound = elim (either (length g.rest) (length others)) as (λ _. length g.rest ≤ length others) [ inl l ↦ l | inr l ↦ absurd (inside g (complete_command t (u ++ others) tree ∙ ap (λ k. answered k t []) e) sound l) ]
