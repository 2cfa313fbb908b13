-- Where what was read ends, as a place of the whole list.
use Rattle.std.proofs.Common.{◌≡◌, ◌≢◌, ℕ, suc, None, ◌-◌, ◌≤◌, inl, inr, Ok, Err, List, [], ◌∷◌, ◌++◌, length, take, drop, refl, sym, ◌∙◌, ap, subst, arith, append_assoc, length-append, length-drop}
use Rattle.std.proofs.lemmas.List.{take-append-drop, take_all}
use Rattle.coq_syntax.specs.declared.token.Token.{Token}
use Rattle.coq_syntax.specs.Tokens.{Tokens}
use Rattle.coq_syntax.specs.Trees.{Term}
use Rattle.coq_syntax.specs.Faults.{Fault}
use Rattle.vernac_parser.specs.declared.cursor.Halt.{Halt}
use Rattle.vernac_parser.specs.declared.cursor.Halt.TheVariants.{Refused, NoMem}
use Rattle.vernac_parser.specs.Parser.{Outcome}
use Rattle.vernac_parser.specs.Parse.{whole_term}
use Rattle.vernac_parser.specs.Reads.{counted}
use Rattle.coq_syntax.specs.Meets.{IsRead, IsRefused, IsAnswer}
use Rattle.coq_syntax.specs.CommandTrees.{Command}
use Rattle.coq_syntax.specs.Commands.{IsCommandOf, command_fault}
use Rattle.vernac_parser.specs.ParseCommand.{whole_command}
use Rattle.coq_syntax.specs.MeetsWhole.{IsRefusedWhole, IsWholeAnswer}
use Rattle.coq_syntax.specs.Answers.{IsCommandParsed, next_place}
use Rattle.vernac_parser.specs.Answers.{IsParsed}
use Rattle.vernac_parser.specs.Halts.{IsWithin, stop_of}
use Rattle.vernac_parser.proofs.Answering.{answers_meet}
use Rattle.vernac_parser.proofs.CommandAnswering.{answers_meet as commands_meet}

tail_of : (front rest : List Token) → drop (length (front ++ rest) - length rest) (front ++ rest) ≡ rest
tail_of [] rest = let e : length rest - length rest ≡ 0 = omega arith in ap (λ n. drop n rest) e
tail_of (x ∷ front) rest =
    let e : length (x ∷ front ++ rest) - length rest ≡ suc (length (front ++ rest) - length rest) = omega (arith, length-append front rest) in
    ap (λ n. drop n (x ∷ front ++ rest)) e ∙ tail_of front rest

front_of : (at : ℕ) (items : List Token) → (front : List Token) × (items ≡ front ++ drop at items)
front_of at items = (take at items, sym (take-append-drop at items))

-- the place of what is left, counted from the end of the list
inside : (items used rest : List Token) (at : ℕ) → drop at items ≡ used ++ rest → drop (length items - length rest) items ≡ rest
inside items used rest at e =
    let front : List Token = (front_of at items).0 in
    let whole : items ≡ (front ++ used) ++ rest = (front_of at items).1 ∙ ap (λ l. front ++ l) e ∙ sym (append_assoc front used rest) in
    ap (λ l. drop (length l - length rest) l) whole ∙ tail_of (front ++ used) rest

fits : (items used rest : List Token) (at : ℕ) → drop at items ≡ used ++ rest → length rest ≤ length items
fits items used rest at e =
    let size : length (drop at items) ≡ length (used ++ rest) = ap length e in omega (arith, length-drop at items, length-append used rest)

from_place : (at : ℕ) (items : List Token) → take (length items - at) (drop at items) ≡ drop at items
from_place at items = take_all (length items - at) (drop at items) (omega (arith, length-drop at items))

-- the tokens from a place on
abbrev Begins : List Token → ℕ → List Token → Type 0
Begins items at i = i ≡ take (length items - at) (drop at items)

begun : (items : List Token) (at : ℕ) (i : List Token) → Begins items at i → i ≡ drop at items
begun items at i b = b ∙ from_place at items

pub term_read : (tokens : Tokens) (at : ℕ) (i left : List Token) (t : Term) → Begins tokens.items at i → whole_term i ≡ Ok (t, left)
    → (length left ≤ length tokens.items) × IsRead (drop at tokens.items) t (drop (length tokens.items - length left) tokens.items)
term_read tokens at i left t b e =
    let read : IsRead (drop at tokens.items) t left = subst (λ l. IsRead l t left) (begun tokens.items at i b) (subst (IsAnswer i) e (answers_meet i)) in
    (fits tokens.items read.used left at read.parts, subst (IsRead (drop at tokens.items) t) (sym (inside tokens.items read.used left at read.parts)) read)

cut : (i : List Token) (f : Fault) → IsRefused i f → (used : List Token) × (i ≡ used ++ f.rest)
cut i f (inl h) = (h.1.used, h.1.parts)
cut i f (inr h) = (h.used, h.parts ∙ ap (λ l. h.used ++ l) (sym h.place))

of_refusal : (tokens : Tokens) (at : ℕ) (f : Fault) (e : Halt) → IsRefused (drop at tokens.items) f → Refused f.code (length f.rest) ≡ e → IsWithin e (length tokens.items) × IsParsed tokens at (Err (stop_of tokens e))
of_refusal tokens at f e h same =
    let parts = cut (drop at tokens.items) f h in
    subst (λ e. IsWithin e (length tokens.items) × IsParsed tokens at (Err (stop_of tokens e))) same
    (fits tokens.items parts.0 f.rest at parts.1, (f, h, (refl, ap (next_place tokens.period) (inside tokens.items parts.0 f.rest at parts.1))))

halted : (tokens : Tokens) (at : ℕ) (i : List Token) (o : Outcome Term) (e : Halt) → i ≡ drop at tokens.items → IsAnswer i o → counted o ≡ Err e → IsWithin e (length tokens.items) × IsParsed tokens at (Err (stop_of tokens e))
halted tokens at i (Ok p) e b h c = absurd (cc)
halted tokens at i (Err f) e b h c = let same : Refused f.code (length f.rest) ≡ e = cc in of_refusal tokens at f e (subst (λ l. IsRefused l f) b h) same

pub term_refused : (tokens : Tokens) (at : ℕ) (i : List Token) (e : Halt) → Begins tokens.items at i → (e ≢ NoMem → counted (whole_term i) ≡ Err e)
    → IsWithin e (length tokens.items) × IsParsed tokens at (Err (stop_of tokens e))
term_refused tokens at i NoMem b h = (tt, tt)
term_refused tokens at i (Refused code left) b h = halted tokens at i (whole_term i) (Refused code left) (begun tokens.items at i b) (answers_meet i) (h (λ e. cc))

-- ---- commands

pub command_read : (items i left : List Token) (c : Command) → i ≡ items → whole_command i ≡ Ok (c, left) → IsCommandOf items c × (command_fault c ≡ None)
command_read items i left c same e =
    let h : IsWholeAnswer IsCommandOf command_fault i (Ok (c, left)) = subst (IsWholeAnswer IsCommandOf command_fault i) e (commands_meet i) in (subst (λ l. IsCommandOf l c) same h.1, h.2)

cut_command : (i : List Token) (f : Fault) → IsRefusedWhole IsCommandOf command_fault i f → (used : List Token) × (i ≡ used ++ f.rest)
cut_command i f (inl h) = (h.1.used, h.1.parts)
cut_command i f (inr h) = (h.used, h.parts ∙ ap (λ l. h.used ++ l) (sym h.place))

of_command_refusal : (tokens : Tokens) (f : Fault) (e : Halt) → IsRefusedWhole IsCommandOf command_fault tokens.items f → Refused f.code (length f.rest) ≡ e → IsWithin e (length tokens.items) × IsCommandParsed tokens (Err (stop_of tokens e))
of_command_refusal tokens f e h same =
    let parts = cut_command tokens.items f h in
    subst (λ e. IsWithin e (length tokens.items) × IsCommandParsed tokens (Err (stop_of tokens e))) same
    (fits tokens.items parts.0 f.rest 0 parts.1, (f, h, (refl, ap (next_place tokens.period) (inside tokens.items parts.0 f.rest 0 parts.1))))

command_halted : (tokens : Tokens) (o : Outcome Command) (e : Halt) → IsWholeAnswer IsCommandOf command_fault tokens.items o → counted o ≡ Err e → IsWithin e (length tokens.items) × IsCommandParsed tokens (Err (stop_of tokens e))
command_halted tokens (Ok p) e h c = absurd (cc)
command_halted tokens (Err f) e h c = let same : Refused f.code (length f.rest) ≡ e = cc in of_command_refusal tokens f e h same

pub command_refused : (tokens : Tokens) (i : List Token) (e : Halt) → i ≡ tokens.items → (e ≢ NoMem → counted (whole_command i) ≡ Err e) → IsWithin e (length tokens.items) × IsCommandParsed tokens (Err (stop_of tokens e))
command_refused tokens i NoMem same h = (tt, tt)
command_refused tokens i (Refused code left) same h =
    command_halted tokens (whole_command i) (Refused code left) (subst (λ l. IsWholeAnswer IsCommandOf command_fault l (whole_command i)) same (commands_meet i)) (h (λ e. cc))
