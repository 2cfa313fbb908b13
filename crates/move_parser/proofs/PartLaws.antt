-- Where the parts of moves without a term are refused.
use Rattle.std.proofs.Common.{◌≡◌, Option, None, Some, Err, List, [], ◌∷◌, ◌++◌, length, take, refl, sym, ◌∙◌, ap, subst, append-nil}
use Rattle.coq_syntax.specs.declared.token.Token.{Token}
use Rattle.coq_syntax.specs.declared.words.TokenPlace.{TokenPlace}
use Rattle.coq_syntax.specs.declared.words.Word.{Word}
use Rattle.coq_syntax.specs.declared.words.BoundName.{BoundName}
use Rattle.coq_syntax.specs.MoveTrees.{PatternCase, Pattern}
use Rattle.coq_syntax.specs.Spelled.{identifier, name, names}
use Rattle.coq_syntax.specs.Faults.{Fault}
use Rattle.coq_syntax.specs.Moves.{optional, identifiers, cases, pattern_tokens}
use Rattle.coq_syntax.specs.Refusals.{IsBehind, IsUnexpected}
use Rattle.vernac_parser.proofs.Shapes.{spare, x_word}
use Rattle.move_parser.specs.declared.cursor.Halt.{Halt}
use Rattle.move_parser.specs.declared.cursor.Halt.TheVariants.{Unexpected, NoMem}
use Rattle.move_parser.specs.declared.mark.Mark.TheVariants.{As, OpenBracket, CloseBracket, Bar}
use Rattle.move_parser.specs.Marks.{written}
use Rattle.move_parser.specs.Reading.{NoneNext, MayTake, IsTaken}
use Rattle.move_parser.specs.Parts.{IsEndOf, IsOptionalOf, AreIdentifiersOf, IsIdentifierOf, IsPatternOf, IsSubjectOf, no_fault, IsPart, AreNames, AreCases}
use Rattle.move_parser.proofs.Tokens.{identifier_same, written_same, name_same, heads, tails, bar_no_name, close_no_name, close_no_bar, next_of}
use Rattle.move_parser.proofs.Behind.{Behind, part_halted, unexpected_here}

-- a part that has to begin so, and doesn't
taken_halted : {A X C : Type 0} (Is : List Token → A → Type 0) (fault : A → Option Fault) (make : X → Token) (view : C → A) (l new more : List Token) (tree : A) (e : Halt) → Is more tree → ((i : List Token) (y : A) → Is i y → IsBehind (length i) (fault y))
    → ((i : List Token) (y : A) → Is i y → (x : X) × (w : List Token) × (i ≡ make x ∷ w)) → IsTaken make l (Err e) new → IsPart Is fault view l (Err e)
taken_halted Is fault make view l new more tree (Unexpected left) h s begins k =
    subst (λ j. IsUnexpected Is fault l j) (sym k.0) (unexpected_here Is fault l more tree h s (λ i y a is. let b = begins i y is in next_of make b.0 i l b.1 a b.2 k.1))
taken_halted Is fault make view l new more tree NoMem h s begins k = tt

none_alike : {X : Type 0} (make : X → Token) (i l : List Token) → take 1 i ≡ take 1 l → NoneNext make l → NoneNext make i
none_alike make i l a none x w e = next_of make x i l w a e none

-- ---- identifiers

last_identifier : (w : Word) (l : List Token) → Behind IsIdentifierOf no_fault IsEndOf no_fault (identifier w ∷ []) l (λ _. w)
last_identifier w l = record {
  into = λ i u h. ap (λ j. identifier w ∷ j) h;
  back = λ i y a h. (tt, tails _ _ _ _ h, identifier_same y w (heads _ _ _ _ h));
  same = λ u. refl;
  elsewhere = λ i y h a e. tt;
}

-- an item that was looked for and not found
pub untaken : {X : Type 0} (make : X → Token) (old new : List Token) (o : Option X) → ((x : X) → o ≡ Some x → ⊥) → MayTake make old o new → (new ≡ old) × NoneNext make old
untaken make old new None none h = h
untaken make old new (Some x) none h = absurd (none x refl)

pub identifier_halted : {C : Type 0} (view : C → Word) (l new : List Token) (e : Halt) → IsTaken identifier l (Err e) new → IsPart IsIdentifierOf no_fault view l (Err e)
identifier_halted view l new e k = taken_halted IsIdentifierOf no_fault identifier view l new (identifier x_word ∷ []) x_word e refl (λ i y is. tt) (λ i y is. (y, [], sym is)) k

pub identifier_end_halted : {D : Type 0} (seen : D → Word) (l rest : List Token) (w : Word) (e : Halt) → l ≡ identifier w ∷ rest → IsPart IsEndOf no_fault (λ (_ : Unit {0}). tt) rest (Err e) → IsPart IsIdentifierOf no_fault seen l (Err e)
identifier_end_halted seen l rest w e s h = part_halted IsIdentifierOf no_fault IsEndOf no_fault (identifier w ∷ []) rest (λ _. w) (last_identifier w rest) (λ (_ : Unit {0}). tt) seen l e s h

some_back : (w : Word) (i : List Token) (y : Option Word) → optional y ≡ identifier w ∷ i → (u : Unit {0}) × IsEndOf i u × (y ≡ Some w)
some_back w i None h = absurd (cc)
some_back w i (Some v) h = (tt, tails _ _ _ _ h, ap (λ x. Some x) (identifier_same v w (heads _ _ _ _ h)))

optional_some : (w : Word) (l : List Token) → Behind IsOptionalOf no_fault IsEndOf no_fault (identifier w ∷ []) l (λ _. Some w)
optional_some w l = record { into = λ i u h. ap (λ j. identifier w ∷ j) h; back = λ i y a h. some_back w i y h; same = λ u. refl; elsewhere = λ i y h a e. tt }

none_back : (i l : List Token) (y : Option Word) → take 1 i ≡ take 1 l → NoneNext identifier l → optional y ≡ i → (u : Unit {0}) × IsEndOf i u × (y ≡ None)
none_back i l None a none h = (tt, h, refl)
none_back i l (Some v) a none h = absurd (next_of identifier v i l [] a (sym h) none)

optional_none : (l : List Token) → NoneNext identifier l → Behind IsOptionalOf no_fault IsEndOf no_fault [] l (λ _. None)
optional_none l none = record { into = λ i u h. h; back = λ i y a h. none_back i l y a none h; same = λ u. refl; elsewhere = λ i y h a e. tt }

pub some_end_halted : {D : Type 0} (seen : D → Option Word) (l rest : List Token) (w : Word) (e : Halt) → l ≡ identifier w ∷ rest → IsPart IsEndOf no_fault (λ (_ : Unit {0}). tt) rest (Err e) → IsPart IsOptionalOf no_fault seen l (Err e)
some_end_halted seen l rest w e s h = part_halted IsOptionalOf no_fault IsEndOf no_fault (identifier w ∷ []) rest (λ _. Some w) (optional_some w rest) (λ (_ : Unit {0}). tt) seen l e s h

pub none_end_halted : {D : Type 0} (seen : D → Option Word) (l rest : List Token) (e : Halt) → rest ≡ l → NoneNext identifier l → IsPart IsEndOf no_fault (λ (_ : Unit {0}). tt) rest (Err e) → IsPart IsOptionalOf no_fault seen l (Err e)
none_end_halted seen l rest e s none h = part_halted IsOptionalOf no_fault IsEndOf no_fault [] l (λ _. None) (optional_none l none) (λ (_ : Unit {0}). tt) seen l e refl (subst (λ j. IsPart IsEndOf no_fault (λ (_ : Unit {0}). tt) j (Err e)) s h)

pub all_back : (ws ys : List Word) (i l : List Token) → take 1 i ≡ take 1 l → NoneNext identifier l → identifiers ys ≡ identifiers ws ++ i → (u : Unit {0}) × IsEndOf i u × (ys ≡ ws)
all_back [] [] i l a none h = (tt, h, refl)
all_back [] (y ∷ ys) i l a none h = absurd (next_of identifier y i l (identifiers ys) a (sym h) none)
all_back (w ∷ ws) [] i l a none h = absurd (cc)
all_back (w ∷ ws) (y ∷ ys) i l a none h =
    let r = all_back ws ys i l a none (tails (identifier y) (identifier w) _ _ h) in
    let first : y ≡ w = identifier_same y w (heads _ _ _ _ h) in
    (tt, r.1, λ k. first k ∷ r.2 k)

all_identifiers : (ws : List Word) (l : List Token) → NoneNext identifier l → Behind AreIdentifiersOf no_fault IsEndOf no_fault (identifiers ws) l (λ _. ws)
all_identifiers ws l none = record { into = λ i u h. sym (append-nil (identifiers ws)) ∙ ap (λ j. identifiers ws ++ j) h; back = λ i y a h. all_back ws y i l a none h; same = λ u. refl; elsewhere = λ i y h a e. tt }

pub identifiers_end_halted : {D : Type 0} (seen : D → List Word) (l left rest : List Token) (ws : List Word) (e : Halt) → l ≡ identifiers ws ++ left → rest ≡ left → NoneNext identifier left → IsPart IsEndOf no_fault (λ (_ : Unit {0}). tt) rest (Err e) → IsPart AreIdentifiersOf no_fault seen l (Err e)
identifiers_end_halted seen l left rest ws e s r none h = part_halted AreIdentifiersOf no_fault IsEndOf no_fault (identifiers ws) left (λ _. ws) (all_identifiers ws left none) (λ (_ : Unit {0}). tt) seen l e s (subst (λ j. IsPart IsEndOf no_fault (λ (_ : Unit {0}). tt) j (Err e)) r h)

-- ---- names and cases

pub unique_names : (ns ms : List BoundName) (r s : List Token) → NoneNext name r → NoneNext name s → names ns r ≡ names ms s → (ns ≡ ms) × (r ≡ s)
unique_names [] [] r s n m e = (refl, e)
unique_names [] (y ∷ ms) r s n m e = absurd (n y _ e)
unique_names (x ∷ ns) [] r s n m e = absurd (m x _ (sym e))
unique_names (x ∷ ns) (y ∷ ms) r s n m e =
    let t = unique_names ns ms r s n m (tails (name x) (name y) _ _ e) in
    let first : x ≡ y = name_same x y (heads _ _ _ _ e) in
    (λ k. first k ∷ t.0 k, t.1)

cases_nameless : (cs : List PatternCase) (r : List Token) → NoneNext name r → NoneNext name (cases cs r)
cases_nameless [] r n = n
cases_nameless (c ∷ cs) r n = bar_no_name c.bar _

unique_cases : (cs ds : List PatternCase) (r s : List Token) → NoneNext name r → NoneNext (written Bar) r → NoneNext name s → NoneNext (written Bar) s → cases cs r ≡ cases ds s → (cs ≡ ds) × (r ≡ s)
unique_cases [] [] r s n b m d e = (refl, e)
unique_cases [] (y ∷ ds) r s n b m d e = absurd (b y.bar _ e)
unique_cases (x ∷ cs) [] r s n b m d e = absurd (d x.bar _ (sym e))
unique_cases (x ∷ cs) (y ∷ ds) r s n b m d e =
    let bar : x.bar ≡ y.bar = written_same Bar x.bar y.bar (heads _ _ _ _ e) in
    let inside = unique_names x.names y.names (cases cs r) (cases ds s) (cases_nameless cs r n) (cases_nameless ds s m) (tails (written Bar x.bar) (written Bar y.bar) _ _ e) in
    let others = unique_cases cs ds r s n b m d inside.1 in
    (λ k. (record { bar = bar k; names = inside.0 k }) ∷ others.0 k, others.1)

-- names and cases in a row
pub unique_body : (ns ms : List BoundName) (cs ds : List PatternCase) (r s : List Token) → NoneNext name r → NoneNext (written Bar) r → NoneNext name s → NoneNext (written Bar) s → names ns (cases cs r) ≡ names ms (cases ds s) → (ns ≡ ms) × (cs ≡ ds) × (r ≡ s)
unique_body ns ms cs ds r s n b m d e =
    let first = unique_names ns ms (cases cs r) (cases ds s) (cases_nameless cs r n) (cases_nameless ds s m) e in
    let others = unique_cases cs ds r s n b m d first.1 in
    (first.0, others.0, others.1)

names-append : (ns : List BoundName) (r i : List Token) → names ns r ++ i ≡ names ns (r ++ i)
names-append [] r i = refl
names-append (n ∷ ns) r i = ap (λ j. name n ∷ j) (names-append ns r i)

cases-append : (cs : List PatternCase) (r i : List Token) → cases cs r ++ i ≡ cases cs (r ++ i)
cases-append [] r i = refl
cases-append (c ∷ cs) r i = ap (λ j. written Bar c.bar ∷ j) (names-append c.names (cases cs r) i ∙ ap (names c.names) (cases-append cs r i))

pub body-append : (ns : List BoundName) (cs : List PatternCase) (i : List Token) → names ns (cases cs []) ++ i ≡ names ns (cases cs i)
body-append ns cs i = names-append ns (cases cs []) i ∙ ap (names ns) (cases-append cs [] i)

-- ---- patterns

abbrev pattern : TokenPlace → TokenPlace → List BoundName → List PatternCase → TokenPlace → Option Pattern
pattern keyword opening first others closing = Some (record { keyword = keyword; opening = opening; first = first; others = others; closing = closing })

nothing_else : (i l : List Token) (y : Option Pattern) → (l ≡ [] → ⊥) → NoneNext (written As) l → take 1 i ≡ take 1 l → pattern_tokens y ≡ i → ⊥
nothing_else i [] None some none a h = some refl
nothing_else i (t ∷ l) None some none a h = absurd (let bad : [] ≡ t ∷ [] = ap (take 1) h ∙ a in cc)
nothing_else i l (Some p) some none a h = next_of (written As) p.keyword i l _ a (sym h) none

pub keyword_halted : {C : Type 0} (view : C → Option Pattern) (l new : List Token) (e : Halt) → (l ≡ [] → ⊥) → IsTaken (written As) l (Err e) new → IsPart IsPatternOf no_fault view l (Err e)
keyword_halted view l new (Unexpected left) some k =
    subst (λ j. IsUnexpected IsPatternOf no_fault l j) (sym k.0) (unexpected_here IsPatternOf no_fault l [] None refl (λ i y is. tt) (λ i y a h. nothing_else i l y some k.1 a h))
keyword_halted view l new NoMem some k = tt

-- what stands behind `as`
abbrev Bracketed : Type 0
Bracketed = TokenPlace × List BoundName × List PatternCase × TokenPlace

abbrev IsBracketedOf : List Token → Bracketed → Type 0
IsBracketedOf tokens b = written OpenBracket b.0 ∷ names b.1 (cases b.2 (written CloseBracket b.3 ∷ [])) ≡ tokens

as_back : (k : TokenPlace) (i : List Token) (y : Option Pattern) → pattern_tokens y ≡ written As k ∷ i → (b : Bracketed) × IsBracketedOf i b × (y ≡ pattern k b.0 b.1 b.2 b.3)
as_back k i None h = absurd (cc)
as_back k i (Some p) h =
    let key : p.keyword ≡ k = written_same As p.keyword k (heads _ _ _ _ h) in
    ((p.opening, p.first, p.others, p.closing), tails (written As p.keyword) (written As k) _ _ h, λ j. pattern (key j) p.opening p.first p.others p.closing)

behind_as : (k : TokenPlace) (l : List Token) → Behind IsPatternOf no_fault IsBracketedOf no_fault (written As k ∷ []) l (λ b. pattern k b.0 b.1 b.2 b.3)
behind_as k l = record { into = λ i b h. ap (λ j. written As k ∷ j) h; back = λ i y a h. as_back k i y h; same = λ b. refl; elsewhere = λ i y h a e. tt }

pub opening_halted : {C : Type 0} (view : C → Option Pattern) (l rest new : List Token) (k : TokenPlace) (e : Halt) → l ≡ written As k ∷ rest → IsTaken (written OpenBracket) rest (Err e) new → IsPart IsPatternOf no_fault view l (Err e)
opening_halted view l rest new k e s h =
    part_halted IsPatternOf no_fault IsBracketedOf no_fault (written As k ∷ []) rest (λ b. pattern k b.0 b.1 b.2 b.3) (behind_as k rest) (λ b. b) view l e s
    (taken_halted IsBracketedOf no_fault (written OpenBracket) (λ b. b) rest new (written OpenBracket spare ∷ written CloseBracket spare ∷ []) (spare, [], [], spare) e refl (λ i y is. tt) (λ i y is. (y.0, _, sym is)) h)

-- what ends a pattern
abbrev IsClosingOf : List Token → TokenPlace → Type 0
IsClosingOf tokens p = written CloseBracket p ∷ [] ≡ tokens

module _ (k o : TokenPlace) (ns : List BoundName) (cs : List PatternCase) where
  abbrev read : List Token
  read = written As k ∷ written OpenBracket o ∷ names ns (cases cs [])

  pub case_back : (i l : List Token) (y : Option Pattern) → NoneNext name l → NoneNext (written Bar) l → take 1 i ≡ take 1 l → pattern_tokens y ≡ read ++ i → (c : TokenPlace) × IsClosingOf i c × (y ≡ pattern k o ns cs c)
  case_back i l None n b a h = absurd (cc)
  case_back i l (Some p) n b a h =
      let key : p.keyword ≡ k = written_same As p.keyword k (heads _ _ _ _ h) in
      let behind : written OpenBracket p.opening ∷ names p.first (cases p.others (written CloseBracket p.closing ∷ [])) ≡ written OpenBracket o ∷ (names ns (cases cs []) ++ i) = tails (written As p.keyword) (written As k) _ _ h in
      let opening : p.opening ≡ o = written_same OpenBracket p.opening o (heads _ _ _ _ behind) in
      let body : names p.first (cases p.others (written CloseBracket p.closing ∷ [])) ≡ names ns (cases cs i) = tails (written OpenBracket p.opening) (written OpenBracket o) _ _ behind ∙ body-append ns cs i in
      let u = unique_body p.first ns p.others cs (written CloseBracket p.closing ∷ []) i (close_no_name p.closing []) (close_no_bar p.closing []) (none_alike name i l a n) (none_alike (written Bar) i l a b) body in
      (p.closing, u.2, λ j. pattern (key j) (opening j) (u.0 j) (u.1 j) p.closing)

  behind_cases : (l : List Token) → NoneNext name l → NoneNext (written Bar) l → Behind IsPatternOf no_fault IsClosingOf no_fault read l (λ c. pattern k o ns cs c)
  behind_cases l n b = record {
    into = λ i c h. ap (λ j. written As k ∷ written OpenBracket o ∷ names ns (cases cs j)) h ∙ ap (λ j. written As k ∷ written OpenBracket o ∷ j) (sym (body-append ns cs i));
    back = λ i y a h. case_back i l y n b a h;
    same = λ c. refl;
    elsewhere = λ i y h a e. tt;
  }

  -- the tokens up to the place of the closing bracket
  pub up_to : (l mid rest rest2 rest3 : List Token) → l ≡ written As k ∷ mid → mid ≡ written OpenBracket o ∷ rest → AreNames rest ns rest2 → AreCases rest2 cs rest3 → l ≡ read ++ rest3
  up_to l mid rest rest2 rest3 p q n c = p ∙ ap (λ j. written As k ∷ j) (q ∙ ap (λ j. written OpenBracket o ∷ j) (n.0 ∙ ap (names ns) c.0 ∙ sym (body-append ns cs rest3)))

  pub closing_part : {C D : Type 0} (view : C → TokenPlace) (seen : D → Option Pattern) (l mid rest rest2 rest3 : List Token) (e : Halt) → l ≡ written As k ∷ mid → mid ≡ written OpenBracket o ∷ rest → AreNames rest ns rest2 → AreCases rest2 cs rest3 → IsPart IsClosingOf no_fault view rest3 (Err e) → IsPart IsPatternOf no_fault seen l (Err e)
  closing_part view seen l mid rest rest2 rest3 e p q n c h =
      part_halted IsPatternOf no_fault IsClosingOf no_fault read rest3 (λ p. pattern k o ns cs p) (behind_cases rest3 (c.1 n.1) c.2) view seen l e (up_to l mid rest rest2 rest3 p q n c) h

  pub closing_halted : {D : Type 0} (seen : D → Option Pattern) (l mid rest rest2 rest3 new : List Token) (e : Halt) → l ≡ written As k ∷ mid → mid ≡ written OpenBracket o ∷ rest → AreNames rest ns rest2 → AreCases rest2 cs rest3 → IsTaken (written CloseBracket) rest3 (Err e) new → IsPart IsPatternOf no_fault seen l (Err e)
  closing_halted seen l mid rest rest2 rest3 new e p q n c h =
      closing_part (λ p. p) seen l mid rest rest2 rest3 e p q n c (taken_halted IsClosingOf no_fault (written CloseBracket) (λ p. p) rest3 new (written CloseBracket spare ∷ []) spare e refl (λ i y is. tt) (λ i y is. (y, [], sym is)) h)

  pub pattern_end_halted : {D : Type 0} (seen : D → Option Pattern) (l mid rest rest2 rest3 rest4 : List Token) (closing : TokenPlace) (e : Halt) → l ≡ written As k ∷ mid → mid ≡ written OpenBracket o ∷ rest → AreNames rest ns rest2 → AreCases rest2 cs rest3 → rest3 ≡ written CloseBracket closing ∷ rest4 → IsPart IsEndOf no_fault (λ (_ : Unit {0}). tt) rest4 (Err e) → IsPart IsPatternOf no_fault seen l (Err e)
  pattern_end_halted seen l mid rest rest2 rest3 rest4 closing e p q n c s h =
      closing_part (λ p. p) seen l mid rest rest2 rest3 e p q n c (part_halted IsClosingOf no_fault IsEndOf no_fault (written CloseBracket closing ∷ []) rest4 (λ _. closing) by (λ (_ : Unit {0}). tt) (λ p. p) rest3 e s h)
    where
      by : Behind IsClosingOf no_fault IsEndOf no_fault (written CloseBracket closing ∷ []) rest4 (λ _. closing)
      by = record { into = λ i u h. ap (λ j. written CloseBracket closing ∷ j) h; back = λ i y a h. (tt, tails _ _ _ _ h, written_same CloseBracket y closing (heads _ _ _ _ h)); same = λ u. refl; elsewhere = λ i y h a e. tt }

-- ---- a name and a pattern

pub subject_halted : {C : Type 0} (view : C → Word × Option Pattern) (l new : List Token) (e : Halt) → IsTaken identifier l (Err e) new → IsPart IsSubjectOf no_fault view l (Err e)
subject_halted view l new e k = taken_halted IsSubjectOf no_fault identifier view l new (identifier x_word ∷ []) (x_word, None) e refl (λ i y is. tt) (λ i y is. (y.0, pattern_tokens y.1, sym is)) k

pub subject_pattern_halted : {C D : Type 0} (view : C → Option Pattern) (seen : D → Word × Option Pattern) (l rest : List Token) (w : Word) (e : Halt) → l ≡ identifier w ∷ rest → IsPart IsPatternOf no_fault view rest (Err e) → IsPart IsSubjectOf no_fault seen l (Err e)
subject_pattern_halted view seen l rest w e s h = part_halted IsSubjectOf no_fault IsPatternOf no_fault (identifier w ∷ []) rest (λ p. (w, p)) by view seen l e s h
  where
    by : Behind IsSubjectOf no_fault IsPatternOf no_fault (identifier w ∷ []) rest (λ p. (w, p))
    by = record { into = λ i p h. ap (λ j. identifier w ∷ j) h; back = λ i y a h. (y.1, tails _ _ _ _ h, (let first : y.0 ≡ w = identifier_same y.0 w (heads _ _ _ _ h) in λ j. (first j, y.1))); same = λ p. refl; elsewhere = λ i y h a e. tt }
