-- Whether `:=` stands next.
use Rattle.std.proofs.Common.{◌≡◌, ◌⊎◌, inl, inr, Bool, true, false, cond, bytes_eq, codes, ℕ, List, [], ◌∷◌, refl, sym, ◌∙◌, ap}
use Rattle.std.proofs.lemmas.Slice.Eq.{bytes_eq-Decides}
use denote.Enum.Bare.{sameb, same_true}
use Rattle.coq_syntax.specs.declared.token.Token.{Token}
use Rattle.coq_syntax.specs.declared.token.TokenKind.{TokenKind}
use Rattle.coq_syntax.specs.declared.token.TokenKind.TheVariants.{Symbol}
use Rattle.coq_syntax.specs.contracts.token.TokenKind.{the_type}
use Rattle.coq_syntax.specs.Spelled.{token, symbol}
use Rattle.coq_syntax.specs.Readings.{place_of}
use Rattle.coq_syntax.specs.Refusals.{IsAssigned}

made : TokenKind → List ℕ → Token → Token
made kind text t = token kind text (place_of t)

same_token : (t : Token) (k : TokenKind) (text : List ℕ) → t.kind ≡ k → t.text ≡ text → t ≡ token k text (place_of t)
unfolding made
same_token t k text e f = ap (λ x. made x t.text t) e ∙ ap (λ x. made k x t) f

is_assign : Token → Bool
is_assign t = cond (sameb the_type t.kind Symbol) (bytes_eq t.text (codes ":=")) false

both : (a b : Bool) → cond a b false ≡ true → (a ≡ true) × (b ≡ true)
both true b e = (refl, e)
both false b e = absurd (let bad : false ≡ true = e in cc)

by_test : (b : Bool) (t : Token) (rest : List Token) → is_assign t ≡ b → IsAssigned (t ∷ rest) ⊎ (IsAssigned (t ∷ rest) → ⊥)
unfolding is_assign
by_test true t rest e =
    let h = both (sameb the_type t.kind Symbol) (bytes_eq t.text (codes ":=")) e in
    inl (place_of t, same_token t Symbol (codes ":=") (same_true the_type tt t.kind Symbol h.0) ((bytes_eq-Decides t.text (codes ":=")).0 h.1))
by_test false t rest e = inr (λ k. let bad : true ≡ false = sym (ap is_assign k.1) ∙ e in cc)

pub assigned_or : (tokens : List Token) → IsAssigned tokens ⊎ (IsAssigned tokens → ⊥)
assigned_or [] = inr (λ k. k)
assigned_or (t ∷ rest) = by_test (is_assign t) t rest refl
