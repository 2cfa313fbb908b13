-- The first token of a term.
use Rattle.std.proofs.Common.{◌≡◌, ◌<◌, ◌≤◌, ◌⊎◌, inl, inr, true, false, List, refl, ◌∙◌, ap, arith}
use Rattle.coq_syntax.specs.declared.token.Token.{Token}
use Rattle.coq_syntax.specs.Trees.{Term, Forall, Fun, Let, Arrow, Or, And, Not, Equal, Apply, Name, PropSort, SetSort, TypeSort, TypeAt, Numeral, Parenthesized, Arguments, NoArgument, Positional, Given}
use Rattle.coq_syntax.specs.Spelled.{spells, arguments}
use Rattle.coq_syntax.specs.Grammar.{level, IsTerm, AreArguments}
use Rattle.vernac_parser.specs.declared.sign.Sign.{Sign}
use Rattle.vernac_parser.specs.declared.sign.Sign.TheVariants as sign
use Rattle.vernac_parser.specs.Signs.{is_sign, sign_at, reserved_sign, symbol_sign, begins_atom, begins_open, begins_term}
use Rattle.vernac_parser.specs.Parse.{assigns}
use Rattle.vernac_parser.proofs.SignLaws.{reach}

-- the sign of a term's first token
abbrev pub begins : Term → Sign
begins (Forall p bs q b) = sign.Forall
begins (Fun p bs q b) = sign.Fun
begins (Let p x a q v r b) = sign.Let
begins (Arrow a p b) = begins a
begins (Or a p b) = begins a
begins (And a p b) = begins a
begins (Not p a) = sign.Not
begins (Equal a p b) = begins a
begins (Apply f args) = begins f
begins (Name w) = sign.Identifier
begins (PropSort p) = sign.PropSort
begins (SetSort p) = sign.SetSort
begins (TypeSort p) = sign.TypeSort
begins (TypeAt p q r w s) = sign.TypeSort
begins (Numeral w) = sign.Number
begins (Parenthesized p t q) = sign.Open

pub head_of : (t : Term) (rest : List Token) → sign_at (spells t rest) ≡ begins t
unfolding reserved_sign symbol_sign
head_of (Forall p bs q b) rest = refl
head_of (Fun p bs q b) rest = refl
head_of (Let p x a q v r b) rest = refl
head_of (Arrow a p b) rest = head_of a _
head_of (Or a p b) rest = head_of a _
head_of (And a p b) rest = head_of a _
head_of (Not p a) rest = refl
head_of (Equal a p b) rest = head_of a _
head_of (Apply f args) rest = head_of f _
head_of (Name w) rest = refl
head_of (PropSort p) rest = refl
head_of (SetSort p) rest = refl
head_of (TypeSort p) rest = refl
head_of (TypeAt p q r w s) rest = refl
head_of (Numeral w) rest = refl
head_of (Parenthesized p t q) rest = refl

pub term_begins : (t : Term) → begins_term (begins t) ≡ true
term_begins (Arrow a p b) = term_begins a
term_begins (Or a p b) = term_begins a
term_begins (And a p b) = term_begins a
term_begins (Equal a p b) = term_begins a
term_begins (Apply f args) = term_begins f
term_begins _ = refl

pub not_assign : (t : Term) → is_sign (begins t) sign.Assign ≡ false
not_assign (Arrow a p b) = not_assign a
not_assign (Or a p b) = not_assign a
not_assign (And a p b) = not_assign a
not_assign (Equal a p b) = not_assign a
not_assign (Apply f args) = not_assign f
not_assign _ = refl

pub atom_begins : (t : Term) → IsTerm t → level t ≤ 10 → begins_atom (begins t) ≡ true
atom_begins (Forall p bs q b) h l = absurd (omega arith)
atom_begins (Fun p bs q b) h l = absurd (omega arith)
atom_begins (Let p x a q v r b) h l = absurd (omega arith)
atom_begins (Arrow a p b) h l = absurd (omega arith)
atom_begins (Or a p b) h l = absurd (omega arith)
atom_begins (And a p b) h l = absurd (omega arith)
atom_begins (Not p a) h l = absurd (omega arith)
atom_begins (Equal a p b) h l = absurd (omega arith)
atom_begins (Apply f args) h l = atom_begins f h.1 (omega (arith, h.0))
atom_begins _ h l = refl

pub atom_reach : (s : Sign) → begins_atom s ≡ true → reach s ≡ 10
atom_reach sign.Identifier h = refl
atom_reach sign.Number h = refl
atom_reach sign.PropSort h = refl
atom_reach sign.SetSort h = refl
atom_reach sign.TypeSort h = refl
atom_reach sign.Open h = refl
atom_reach _ h = absurd (let bad : false ≡ true = h in cc)

pub no_not : (t : Term) → IsTerm t → level t ≤ 70 → is_sign (begins t) sign.Not ≡ false
no_not (Arrow a p b) h l = absurd (omega arith)
no_not (Or a p b) h l = absurd (omega arith)
no_not (And a p b) h l = absurd (omega arith)
no_not (Not p a) h l = absurd (omega arith)
no_not (Equal a p b) h l = no_not a h.1 (omega (arith, h.0))
no_not (Apply f args) h l = no_not f h.1 (omega (arith, h.0))
no_not _ h l = refl

pub no_open : (t : Term) → IsTerm t → level t ≤ 99 → begins_open (begins t) ≡ false
no_open (Forall p bs q b) h l = absurd (omega arith)
no_open (Fun p bs q b) h l = absurd (omega arith)
no_open (Let p x a q v r b) h l = absurd (omega arith)
no_open (Arrow a p b) h l = no_open a h.2 (omega (arith, h.0))
no_open (Or a p b) h l = no_open a h.2 (omega (arith, h.0))
no_open (And a p b) h l = no_open a h.2 (omega (arith, h.0))
no_open (Equal a p b) h l = no_open a h.1 (omega (arith, h.0))
no_open (Apply f args) h l = no_open f h.1 (omega (arith, h.0))
no_open _ h l = refl

pub opens : (t : Term) → level t ≡ 200 → begins_open (begins t) ≡ true
opens (Forall p bs q b) l = refl
opens (Fun p bs q b) l = refl
opens (Let p x a q v r b) l = refl
opens _ l = absurd (omega arith)

pub levels : (t : Term) → (level t ≤ 99) ⊎ (level t ≡ 200)
levels (Forall p bs q b) = inr refl
levels (Fun p bs q b) = inr refl
levels (Let p x a q v r b) = inr refl
levels _ = inl (omega arith)

no_assign_behind : (args : Arguments) (rest : List Token) → is_sign (sign_at rest) sign.Assign ≡ false → is_sign (sign_at (arguments args rest)) sign.Assign ≡ false
unfolding reserved_sign symbol_sign
no_assign_behind NoArgument rest h = h
no_assign_behind (Positional t after) rest h = ap (λ s. is_sign s sign.Assign) (head_of t _) ∙ not_assign t
no_assign_behind (Given p w q t r after) rest h = refl

-- no term begins with an identifier and `:=`
pub no_assign : (t : Term) (rest : List Token) → is_sign (sign_at rest) sign.Assign ≡ false → assigns (spells t rest) ≡ false
unfolding reserved_sign symbol_sign
no_assign (Arrow a p b) rest h = no_assign a _ refl
no_assign (Or a p b) rest h = no_assign a _ refl
no_assign (And a p b) rest h = no_assign a _ refl
no_assign (Equal a p b) rest h = no_assign a _ refl
no_assign (Apply f args) rest h = no_assign f _ (no_assign_behind args rest h)
no_assign (Name w) rest h = h
no_assign _ rest h = refl

-- what stands behind an argument is no `@`
pub behind_argument : (args : Arguments) (rest : List Token) → AreArguments args → 0 < reach (sign_at rest) → 0 < reach (sign_at (arguments args rest))
unfolding reserved_sign symbol_sign
behind_argument NoArgument rest h r = r
behind_argument (Positional t after) rest h r = let e : reach (sign_at (spells t (arguments after rest))) ≡ 10 = ap reach (head_of t _) ∙ atom_reach (begins t) (atom_begins t h.1 (omega (arith, h.0))) in omega arith
behind_argument (Given p w q t r after) rest h r' = omega arith
