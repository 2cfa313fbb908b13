-- What was read before a refusal begins a tree: the rules one level down, and a term that stands by itself.
use Rattle.std.proofs.Common.{◌≡◌, ℕ, zero, suc, ◌≤◌, inl, inr, Bool, true, false, Some, Err, List, [], ◌∷◌, ◌++◌, codes, refl, sym, ◌∙◌, ap, arith}
use Rattle.coq_syntax.specs.declared.token.Token.{Token}
use Rattle.coq_syntax.specs.declared.words.BoundName.TheVariants.{Named}
use Rattle.coq_syntax.specs.Trees.{Term, Forall, Fun, Let, Not, Name, PropSort, SetSort, TypeSort, Numeral, Parenthesized, Names, Untyped}
use Rattle.coq_syntax.specs.Spelled as spelled
use Rattle.coq_syntax.specs.Spelled.{spells, symbol, reserved}
use Rattle.coq_syntax.specs.Limits.{too_deep}
use Rattle.coq_syntax.specs.Grammar.{level, IsTerm}
use Rattle.vernac_parser.specs.declared.sign.Sign.{Sign}
use Rattle.vernac_parser.specs.declared.sign.Sign.TheVariants as sign
use Rattle.vernac_parser.specs.Signs.{sign_of, sign_at, begins_open, begins_term}
use Rattle.vernac_parser.specs.Parser.{place_of, word_of}
use Rattle.vernac_parser.specs.Parse.{Rule, Whole, Right85, Right80, Right75, standard, nested}
use Rattle.vernac_parser.proofs.SignLaws.{mark, mark_is, word_is, number_is, is_same}
use Rattle.vernac_parser.proofs.Viable.{Answers, answer_if, answer_refuse}
use Rattle.vernac_parser.proofs.Shapes.{spare, x_word, x_term, x_token, Down, most}
use Rattle.vernac_parser.proofs.ViableRules.{Begins, viable_by_rule}

-- a term that begins with a token
record Started (t : Token) (greatest : ℕ) : Type 0 where
  value : Term
  others : List Token
  fits : IsTerm value
  low : level value ≤ greatest
  spelled : (tail : List Token) → spells value tail ≡ t ∷ (others ++ tail)

behind_token : (t s : Token) (v : Term) (others : List Token) → t ≡ s → ((tail : List Token) → spells v tail ≡ s ∷ (others ++ tail)) → (tail : List Token) → spells v tail ≡ t ∷ (others ++ tail)
behind_token t s v others e h tail = h tail ∙ ap (λ x. x ∷ (others ++ tail)) (sym e)

-- an operand
low_start : (t : Token) (s : Sign) → sign_of t ≡ s → begins_term s ≡ true → begins_open s ≡ false → Started t 75
low_start t sign.Not e b o = record { value = Not (place_of t) x_term; others = x_token ∷ []; fits = (inl (omega arith), tt); low = omega arith; spelled = behind_token t (mark sign.Not (place_of t)) (Not (place_of t) x_term) (x_token ∷ []) (mark_is sign.Not t refl (is_same _ _ e)) (λ tail. refl) }
low_start t sign.Identifier e b o = record { value = Name (word_of t); others = []; fits = tt; low = omega arith; spelled = behind_token t (spelled.identifier (word_of t)) (Name (word_of t)) [] (word_is t (is_same _ _ e)) (λ tail. refl) }
low_start t sign.Number e b o = record { value = Numeral (word_of t); others = []; fits = tt; low = omega arith; spelled = behind_token t (spelled.number (word_of t)) (Numeral (word_of t)) [] (number_is t (is_same _ _ e)) (λ tail. refl) }
low_start t sign.PropSort e b o = record { value = PropSort (place_of t); others = []; fits = tt; low = omega arith; spelled = behind_token t (mark sign.PropSort (place_of t)) (PropSort (place_of t)) [] (mark_is sign.PropSort t refl (is_same _ _ e)) (λ tail. refl) }
low_start t sign.SetSort e b o = record { value = SetSort (place_of t); others = []; fits = tt; low = omega arith; spelled = behind_token t (mark sign.SetSort (place_of t)) (SetSort (place_of t)) [] (mark_is sign.SetSort t refl (is_same _ _ e)) (λ tail. refl) }
low_start t sign.TypeSort e b o = record { value = TypeSort (place_of t); others = []; fits = tt; low = omega arith; spelled = behind_token t (mark sign.TypeSort (place_of t)) (TypeSort (place_of t)) [] (mark_is sign.TypeSort t refl (is_same _ _ e)) (λ tail. refl) }
low_start t sign.Open e b o = record { value = Parenthesized (place_of t) x_term spare; others = x_token ∷ symbol (codes ")") spare ∷ []; fits = tt; low = omega arith; spelled = behind_token t (mark sign.Open (place_of t)) (Parenthesized (place_of t) x_term spare) (x_token ∷ symbol (codes ")") spare ∷ []) (mark_is sign.Open t refl (is_same _ _ e)) (λ tail. refl) }
low_start t sign.Forall e b o = absurd (let bad : true ≡ false = o in cc)
low_start t sign.Fun e b o = absurd (let bad : true ≡ false = o in cc)
low_start t sign.Let e b o = absurd (let bad : true ≡ false = o in cc)
low_start t _ e b o = absurd (let bad : false ≡ true = b in cc)

higher : (t : Token) (m n : ℕ) → m ≤ n → Started t m → Started t n
higher t m n l s = record { value = s.value; others = s.others; fits = s.fits; low = omega (arith, s.low); spelled = s.spelled }

-- any term
start : (t : Token) (s : Sign) → sign_of t ≡ s → begins_term s ≡ true → (b : Bool) → begins_open s ≡ b → Started t 200
start t s e b false o = higher t 75 200 (omega arith) (low_start t s e b o)
start t sign.Forall e b true o = record { value = Forall (place_of t) (Names (Named x_word ∷ []) spare x_term) spare x_term; others = x_token ∷ symbol (codes ":") spare ∷ x_token ∷ symbol (codes ",") spare ∷ x_token ∷ []; fits = ((tt, tt), tt); low = omega arith; spelled = behind_token t (mark sign.Forall (place_of t)) (Forall (place_of t) (Names (Named x_word ∷ []) spare x_term) spare x_term) (x_token ∷ symbol (codes ":") spare ∷ x_token ∷ symbol (codes ",") spare ∷ x_token ∷ []) (mark_is sign.Forall t refl (is_same _ _ e)) (λ tail. refl) }
start t sign.Fun e b true o = record { value = Fun (place_of t) (Names (Named x_word ∷ []) spare x_term) spare x_term; others = x_token ∷ symbol (codes ":") spare ∷ x_token ∷ symbol (codes "=>") spare ∷ x_token ∷ []; fits = ((tt, tt), tt); low = omega arith; spelled = behind_token t (mark sign.Fun (place_of t)) (Fun (place_of t) (Names (Named x_word ∷ []) spare x_term) spare x_term) (x_token ∷ symbol (codes ":") spare ∷ x_token ∷ symbol (codes "=>") spare ∷ x_token ∷ []) (mark_is sign.Fun t refl (is_same _ _ e)) (λ tail. refl) }
start t sign.Let e b true o = record { value = Let (place_of t) (Named x_word) Untyped spare x_term spare x_term; others = x_token ∷ symbol (codes ":=") spare ∷ x_token ∷ reserved (codes "in") spare ∷ x_token ∷ []; fits = (tt, tt, tt); low = omega arith; spelled = behind_token t (mark sign.Let (place_of t)) (Let (place_of t) (Named x_word) Untyped spare x_term spare x_term) (x_token ∷ symbol (codes ":=") spare ∷ x_token ∷ reserved (codes "in") spare ∷ x_token ∷ []) (mark_is sign.Let t refl (is_same _ _ e)) (λ tail. refl) }
start t _ e b true o = absurd (let bad : false ≡ true = o in cc)

started : (rule : Rule) (t : Token) (rest : List Token) → begins_term (sign_of t) ≡ true → Begins rule (t ∷ rest) → Started t (most rule)
started Whole t rest e b = start t (sign_of t) refl e (begins_open (sign_of t)) refl
started Right85 t rest e b = higher t 75 85 (omega arith) (low_start t (sign_of t) refl e b)
started Right80 t rest e b = higher t 75 80 (omega arith) (low_start t (sign_of t) refl e b)
started Right75 t rest e b = low_start t (sign_of t) refl e b

at_least : (rule : Rule) → 0 ≤ most rule
at_least rule = omega arith

too_deep_here : (rule : Rule) (i : List Token) → Begins rule i → begins_term (sign_at i) ≡ true → Answers (Down rule 0) i (Err (record { code = too_deep; rest = i }))
unfolding Answers
too_deep_here rule [] b e = absurd (let bad : false ≡ true = e in cc)
too_deep_here rule (t ∷ rest) b e =
    let s : Started t (most rule) = started rule t rest e b in
    record {
      used = [];
      parts = refl;
      more = t ∷ s.others;
      value = s.value;
      fits = (s.fits, s.low);
      spelled = s.spelled;
      why = inr (record { next = t; after = rest; others = s.others; place = refl; here = refl; is = λ tail. ap (λ w. Some (record { code = too_deep; rest = w })) (s.spelled tail) });
    }

-- a rule one level down
pub viable_down : (n : ℕ) (rule : Rule) (i : List Token) → Begins rule i → Answers (Down rule n) i (nested standard n rule i)
unfolding nested
viable_down zero rule i b = answer_if (Down rule 0) i (begins_term (sign_at i)) _ _
    (λ e. too_deep_here rule i b e)
    (λ _. answer_refuse (Down rule 0) i [] i (x_token ∷ []) x_term refl (tt, at_least rule) (λ tail. refl) (λ tail. omega arith))
viable_down (suc n) rule i b = viable_by_rule n (nested standard n) (viable_down n) rule i
