-- A sentence has one token list.
use Rattle.std.proofs.Common.{◌≡◌, ℕ, ◌+◌, Bool, true, false, cond, List, [], ◌∷◌, ◌++◌, length, take, drop, codes, refl, sym, ◌∙◌, ap, arith, length-append, encode_utf8, encode_utf8_all, append-nil}
use Rattle.std.proofs.lemmas.Grind.{common_steps}
use Rattle.std.proofs.lemmas.Slice.Eq.{bytes_eq-Decides}
use Rattle.std.proofs.lemmas.Str.{encodes_same}
use Rattle.sentence_split.specs.Items.{Items, spells}
use Rattle.sentence_split.proofs.Passes.{spells-append}
use Rattle.coq_syntax.specs.declared.token.Token.{Token}
use Rattle.coq_syntax.specs.declared.token.TokenKind.{TokenKind}
use Rattle.coq_syntax.specs.declared.token.TokenKind.TheVariants.{Identifier, Wildcard, Reserved, Number, Symbol, Quoted, Other}
use Rattle.coq_syntax.specs.declared.pieces.Piece.{Piece}
use Rattle.coq_syntax.specs.declared.pieces.Piece.TheVariants.{Gap, Lexeme}
use Rattle.coq_syntax.specs.Characters.{is_wildcard, is_reserved}
use Rattle.coq_syntax.specs.Lexemes.{IsLexeme}
use Rattle.coq_syntax.specs.Tokens.{Tokens}
use Rattle.coq_syntax.specs.Pieces.{Pieces, End, Blank, Comment, Lexeme as Token_piece, characters_of, ArePieces, comment_of, token_at, tokens_of, IsTokenList}
use Rattle.coq_syntax.specs.Scan.{kind_of, piece_len}
use Rattle.coq_syntax.proofs.Heads.{found, shape_of, head_of, headed}

after_of : Pieces → Pieces
after_of End = End
after_of (Blank c after) = after
after_of (Comment inside after) = after
after_of (Token_piece kind cs after) = after

-- the tokens of a piece and of what follows it
next : ℕ → Piece → List ℕ → (ℕ → List Token) → List Token
next at (Gap n) text later = later (at + length (encode_utf8_all (take n text)))
next at (Lexeme shape n) text later = token_at at (kind_of shape (encode_utf8_all (take n text))) (encode_utf8_all (take n text)) ∷ later (at + length (encode_utf8_all (take n text)))

next_same : (at : ℕ) (p : Piece) (text : List ℕ) (f g : ℕ → List Token) → ((k : ℕ) → f k ≡ g k) → next at p text f ≡ next at p text g
unfolding next
next_same at (Gap n) text f g h = h _
next_same at (Lexeme shape n) text f g h = ap (λ ts. token_at at (kind_of shape (encode_utf8_all (take n text))) (encode_utf8_all (take n text)) ∷ ts) (h _)

front : (xs ys : List ℕ) → take (length xs) (xs ++ ys) ≡ xs
front xs ys = grind (arith, common_steps)

behind : (xs ys : List ℕ) → drop (length xs) (xs ++ ys) ≡ ys
behind xs ys = grind (arith, common_steps)

reserved_cases : (b : Bool) (t : List ℕ) → is_wildcard t ≡ b → is_reserved t ≡ true → cond b Wildcard (cond (is_reserved t) Reserved Identifier) ≡ Reserved
reserved_cases true t e h = let clash : false ≡ true = ap is_reserved (sym ((bytes_eq-Decides t (codes "_")).0 e)) ∙ h in cc
reserved_cases false t e h = ap (λ b. cond b Reserved Identifier) h

kind_same : (kind : TokenKind) (cs rest : List ℕ) → IsLexeme kind cs rest → kind_of (shape_of kind) (encode_utf8_all cs) ≡ kind
kind_same Identifier cs rest h = ap (λ b. cond b Wildcard (cond (is_reserved (encode_utf8_all cs)) Reserved Identifier)) h.1 ∙ ap (λ b. cond b Reserved Identifier) h.2
kind_same Wildcard cs rest h = ap (λ b. cond b Wildcard (cond (is_reserved (encode_utf8_all cs)) Reserved Identifier)) h.1
kind_same Reserved cs rest h = reserved_cases (is_wildcard (encode_utf8_all cs)) (encode_utf8_all cs) refl h.1
kind_same Number cs rest h = refl
kind_same Symbol cs rest h = refl
kind_same Quoted cs rest h = refl
kind_same Other cs rest h = refl

comment_parts : (inside : Items) (tail : List ℕ) → characters_of (Comment inside End) ++ tail ≡ 40 ∷ 42 ∷ spells inside (42 ∷ 41 ∷ tail)
comment_parts inside tail = ap (λ t. 40 ∷ 42 ∷ t) (sym (spells-append inside (42 ∷ 41 ∷ []) tail))

stepped : (p : Pieces) (at : ℕ) → ArePieces p → tokens_of at p ≡ next at (head_of p) (characters_of p) (λ k. tokens_of k (after_of p))
unfolding next after_of
stepped End at h = refl
stepped (Blank c after) at h = ap (λ n. tokens_of (at + n) after) (sym (ap length (append-nil (encode_utf8 c))))
stepped (Comment inside after) at h =
    let cut : take (length (comment_of inside)) (characters_of (Comment inside after)) ≡ comment_of inside = ap (take (length (comment_of inside))) (sym (comment_parts inside (characters_of after))) ∙ front (comment_of inside) (characters_of after) in
    ap (λ cs. tokens_of (at + length (encode_utf8_all cs)) after) (sym cut)
stepped (Token_piece kind cs after) at h =
    let cut : take (length cs) (cs ++ characters_of after) ≡ cs = front cs (characters_of after) in
    ap (λ k. token_at at k (encode_utf8_all cs) ∷ tokens_of (at + length (encode_utf8_all cs)) after) (sym (kind_same kind cs (characters_of after) h.0))
    ∙ ap (λ xs. token_at at (kind_of (shape_of kind) (encode_utf8_all xs)) (encode_utf8_all xs) ∷ tokens_of (at + length (encode_utf8_all xs)) after) (sym cut)

passed : (p : Pieces) → characters_of (after_of p) ≡ drop (piece_len (head_of p)) (characters_of p)
unfolding after_of
passed End = refl
passed (Blank c after) = refl
passed (Comment inside after) = sym (ap (drop (length (comment_of inside))) (sym (comment_parts inside (characters_of after))) ∙ behind (comment_of inside) (characters_of after))
passed (Token_piece kind cs after) = sym (behind cs (characters_of after))

fit_after : (p : Pieces) → ArePieces p → ArePieces (after_of p)
unfolding after_of
fit_after End h = tt
fit_after (Blank c after) h = h.1
fit_after (Comment inside after) h = h.1
fit_after (Token_piece kind cs after) h = h.1

pub no_lexeme : (kind : TokenKind) (rest : List ℕ) → IsLexeme kind [] rest → ⊥
no_lexeme Identifier rest h = h.0.0
no_lexeme Wildcard rest h = h.0.0
no_lexeme Reserved rest h = h.0.0
no_lexeme Number rest h = h.0
no_lexeme Symbol rest h = h
no_lexeme Quoted rest h = let bad = h.spelled in cc
no_lexeme Other rest h = h

no_tokens : (p : Pieces) (at : ℕ) → ArePieces p → characters_of p ≡ [] → tokens_of at p ≡ []
no_tokens End at h e = refl
no_tokens (Blank c after) at h e = cc
no_tokens (Comment inside after) at h e = cc
no_tokens (Token_piece kind [] after) at h e = absurd (no_lexeme kind (characters_of after) h.0)
no_tokens (Token_piece kind (c ∷ cs) after) at h e = cc

heads_same : (p q : Pieces) → ArePieces p → ArePieces q → characters_of p ≡ characters_of q → head_of p ≡ head_of q
heads_same p q f g e = sym (headed p f) ∙ ap found e ∙ headed q g

afters_same : (p q : Pieces) → ArePieces p → ArePieces q → characters_of p ≡ characters_of q → characters_of (after_of p) ≡ characters_of (after_of q)
afters_same p q f g e =
    passed p ∙ ap (λ h. drop (piece_len h) (characters_of p)) (heads_same p q f g e) ∙ ap (drop (piece_len (head_of q))) e ∙ sym (passed q)

one_step : (p q : Pieces) (at : ℕ) → ArePieces p → ArePieces q → characters_of p ≡ characters_of q → ((k : ℕ) → tokens_of k (after_of p) ≡ tokens_of k (after_of q)) → tokens_of at p ≡ tokens_of at q
one_step p q at f g e later =
    stepped p at f
    ∙ next_same at (head_of p) (characters_of p) (λ k. tokens_of k (after_of p)) (λ k. tokens_of k (after_of q)) later
    ∙ ap (λ h. next at h (characters_of p) (λ k. tokens_of k (after_of q))) (heads_same p q f g e)
    ∙ ap (λ t. next at (head_of q) t (λ k. tokens_of k (after_of q))) e
    ∙ sym (stepped q at g)

tokens_same : (p q : Pieces) (at : ℕ) → ArePieces p → ArePieces q → characters_of p ≡ characters_of q → tokens_of at p ≡ tokens_of at q
unfolding after_of
tokens_same End q at f g e = sym (no_tokens q at g (sym e))
tokens_same (Blank c after) q at f g e = one_step (Blank c after) q at f g e (λ k. tokens_same after (after_of q) k f.1 (fit_after q g) (afters_same (Blank c after) q f g e))
tokens_same (Comment inside after) q at f g e = one_step (Comment inside after) q at f g e (λ k. tokens_same after (after_of q) k f.1 (fit_after q g) (afters_same (Comment inside after) q f g e))
tokens_same (Token_piece kind cs after) q at f g e = one_step (Token_piece kind cs after) q at f g e (λ k. tokens_same after (after_of q) k f.1 (fit_after q g) (afters_same (Token_piece kind cs after) q f g e))

fronts_same : (xs ys : List ℕ) → xs ++ 46 ∷ [] ≡ ys ++ 46 ∷ [] → xs ≡ ys
fronts_same xs ys e =
    let size : length xs ≡ length ys = omega (arith, ap length e, length-append xs (46 ∷ []), length-append ys (46 ∷ [])) in
    sym (front xs (46 ∷ [])) ∙ ap (λ n. take n (xs ++ 46 ∷ [])) size ∙ ap (take (length ys)) e ∙ front ys (46 ∷ [])

list_of : List Token → ℕ → Tokens
list_of items period = record { items = items; period = period }

-- a sentence has one token list
pub one_list : (sentence : List ℕ) (a b : Tokens) → IsTokenList sentence a → IsTokenList sentence b → a ≡ b
unfolding list_of
one_list sentence a b f g =
    let same : characters_of f.pieces ≡ characters_of g.pieces = encodes_same (characters_of f.pieces) (characters_of g.pieces) (fronts_same _ _ (sym f.spelled ∙ g.spelled)) in
    let items : a.items ≡ b.items = f.items_are ∙ tokens_same f.pieces g.pieces 0 f.fit g.fit same ∙ sym g.items_are in
    let period : a.period ≡ b.period = omega (arith, f.period_is, g.period_is) in
    ap (λ ts. list_of ts a.period) items ∙ ap (list_of b.items) period
