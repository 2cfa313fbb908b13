-- A text has one split.
use Rattle.std.proofs.Common.{◌≡◌, ℕ, ◌+◌, ◌-◌, ◌<◌, ◌≤◌, Bool, true, false, cond, eqb, Option, None, Some, List, [], ◌∷◌, ◌++◌, length, drop, replicate, length-append, append-nil, zero, suc, refl, sym, ◌∙◌, ap, subst, arith}
use Rattle.std.specs.List.{prefix_len}
use Rattle.std.proofs.lemmas.Bool.Decides.{nat_tests}
use Rattle.std.proofs.lemmas.List.{length-replicate}
use Rattle.base_core.specs.declared.kind.Kind.{Kind}
use Rattle.base_core.specs.declared.kind.Kind.TheVariants.{Plain, Bullet, BraceOpen, BraceClose, Unfinished}
use Rattle.sentence_split.specs.declared.spans.Span.{Span}
use Rattle.sentence_split.specs.declared.pieces.Piece.{Piece}
use Rattle.sentence_split.specs.declared.pieces.Piece.TheVariants.{Gap, Sentence}
use Rattle.sentence_split.specs.Items.{Items, End, Comment, Quotation, Byte, spells, begins, opens, AreItems, IsGap, is_blank}
use Rattle.sentence_split.specs.Split.{is_bullet, is_sign, Ends, EndsFirst, IsSentence, BeginsSentence, IsSplit}
use Rattle.sentence_split.specs.Scan.{sentence_end, comment_end}
use Rattle.sentence_split.specs.Sentences.{plain_piece, comment_piece, first_piece, sentences}
use Rattle.sentence_split.proofs.Passing.{sentences-gap, sentences-sentence}
use Rattle.sentence_split.proofs.Passes.{spells-append, stopped_at, ends, commented, comment_found}
use Rattle.sentence_split.proofs.Lawful.{split_at}

-- sentences that go on with what stands behind a gap
record Skipped (total at : ℕ) (text tail : List ℕ) : Type 0 where
  place : ℕ
  placed : place + length tail ≡ total
  same : sentences at 0 text ≡ sentences place 0 tail

skips : (gap : Items) (tail : List ℕ) (total at : ℕ) → IsGap gap tail → at + length (spells gap tail) ≡ total → Skipped total at (spells gap tail) tail
skips End tail total at g e = record { place = at; placed = e; same = refl }
skips (Quotation bytes after) tail total at g e = absurd g
skips (Byte b after) tail total at g e =
    let text : List ℕ = b ∷ spells after tail in
    let is : first_piece b (spells after tail) ≡ Gap 1 = rw g.0 refl in
    let more = skips after tail total (at + 1) g.1 (omega arith) in
    record { place = more.place; placed = more.placed; same = sentences-gap text at 1 (omega arith) is (omega arith) (omega arith) ∙ more.same }
skips (Comment inside after) tail total at g e =
    let behind : List ℕ = spells after tail in
    let text : List ℕ = 40 ∷ 42 ∷ spells inside (42 ∷ 41 ∷ behind) in
    let front : List ℕ = 40 ∷ 42 ∷ spells inside (42 ∷ 41 ∷ []) in
    let parts : text ≡ front ++ behind = ap (λ t. 40 ∷ 42 ∷ t) (spells-append inside (42 ∷ 41 ∷ []) behind) in
    let sizes : length text ≡ length front + length behind = ap length parts ∙ length-append front behind in
    let n : ℕ = length text - length behind in
    let cut = split_at text front behind n parts refl in
    let is : first_piece 40 (42 ∷ spells inside (42 ∷ 41 ∷ behind)) ≡ Gap n = ap (comment_piece text) (comment_found inside behind g.0) in
    let next : sentences at 0 text ≡ sentences (at + n) 0 behind =
    sentences-gap text at n (omega arith) is (omega (arith, sizes)) (omega arith) ∙ ap (sentences (at + n) 0) cut.1 in
    let more = skips after tail total (at + n) g.1 (omega (arith, sizes)) in
    record { place = more.place; placed = more.placed; same = next ∙ more.same }

-- what the first bytes are, where a sentence begins
Begun : List ℕ → Piece → Type 0
Begun [] p = ⊥
Begun (b ∷ rest) p = first_piece b rest ≡ p

run-more : (t : Bool) (b x n : ℕ) → eqb x b ≡ t → x ≡ b → cond t (1 + n) 0 ≡ suc n
run-more true b x n e same = omega arith
run-more false b x n e same = absurd (omega (arith, (let other : (x ≡ b) → ⊥ = grind (arith, nat_tests) in other same)))

run_of-replicate : (n b : ℕ) (rest : List ℕ) → begins b rest ≡ false → prefix_len (λ c. eqb c b) (replicate n b ++ rest) ≡ n
run_of-replicate zero b [] e = refl
run_of-replicate zero b (x ∷ rest) e = ap (λ t. cond t (1 + prefix_len (λ c. eqb c b) rest) 0) e
run_of-replicate (suc n) b rest e =
    ap (λ m. cond (eqb b b) (1 + m) 0) (run_of-replicate n b rest e) ∙ run-more (eqb b b) b b n refl refl

bullet_begun : (n b : ℕ) (rest : List ℕ) → is_bullet b ≡ true → 0 < n → begins b rest ≡ false → Begun (replicate n b ++ rest) (Sentence Bullet n)
unfolding Begun
bullet_begun zero b rest e some stops = absurd (omega arith)
bullet_begun (suc n) b rest e some stops =
    let unblank : is_blank b ≡ false = grind (arith, nat_tests) in
    let is : first_piece b (replicate n b ++ rest) ≡ Sentence Bullet (1 + prefix_len (λ c. eqb c b) (replicate n b ++ rest)) = rw (unblank, e) refl in
    let count : 1 + prefix_len (λ c. eqb c b) (replicate n b ++ rest) ≡ suc n = omega (arith, run_of-replicate n b rest stops) in
    is ∙ ap (Sentence Bullet) count

no_bullet : (b : ℕ) → is_sign b ≡ false → is_bullet b ≡ false
no_bullet b e = grind (arith, nat_tests)

no_open : (b : ℕ) → is_sign b ≡ false → eqb b 123 ≡ false
no_open b e = grind (arith, nat_tests)

no_close : (b : ℕ) → is_sign b ≡ false → eqb b 125 ≡ false
no_close b e = grind (arith, nat_tests)

-- no closed comment begins here
no_comment : (o : Option (List ℕ)) (b : ℕ) (rest : List ℕ) → comment_end rest ≡ o → opens b rest ≡ true → ((inside : Items) (after : List ℕ) → AreItems inside (42 ∷ 41 ∷ after) → b ∷ rest ≡ 40 ∷ 42 ∷ spells inside (42 ∷ 41 ∷ after) → ⊥) → comment_end rest ≡ None
no_comment None b rest e f never = e
no_comment (Some after) b rest e f never = let c = commented b rest after f e in absurd (never c.inside after c.items c.spelled)

plain_begun : (t : Bool) (b : ℕ) (rest : List ℕ) → opens b rest ≡ t → is_sign b ≡ false → is_blank b ≡ false → ((inside : Items) (after : List ℕ) → AreItems inside (42 ∷ 41 ∷ after) → b ∷ rest ≡ 40 ∷ 42 ∷ spells inside (42 ∷ 41 ∷ after) → ⊥) → first_piece b rest ≡ plain_piece (b ∷ rest) (sentence_end (b ∷ rest))
plain_begun true b rest e f g never =
    let bullet = no_bullet b f in let brace = no_open b f in let close = no_close b f in
    let is : first_piece b rest ≡ comment_piece (b ∷ rest) (comment_end rest) = rw (g, bullet, brace, close, e) refl in
    is ∙ ap (comment_piece (b ∷ rest)) (no_comment (comment_end rest) b rest refl e never)
plain_begun false b rest e f g never =
    let bullet = no_bullet b f in let brace = no_open b f in let close = no_close b f in
    rw (g, bullet, brace, close, e) refl

same_tail : (text front tail front' tail' : List ℕ) → text ≡ front ++ tail → text ≡ front' ++ tail' → length tail ≡ length tail' → tail ≡ tail'
same_tail text front tail front' tail' e e' same =
    let one = split_at text front tail (length text - length tail) e refl in
    let other = split_at text front' tail' (length text - length tail') e' refl in
    sym one.1 ∙ ap (λ n. drop (length text - n) text) same ∙ other.1

-- the scan finds the first end
first_end : (text sentence rest : List ℕ) → text ≡ sentence ++ rest → EndsFirst text rest → sentence_end text ≡ Some rest
first_end text sentence rest e f =
    let s = stopped_at text rest f.ends in
    let at = ends text s.at s.is in
    let parts : text ≡ spells at.stretch (46 ∷ []) ++ s.at = at.spelled ∙ spells-append at.stretch (46 ∷ []) s.at in
    let same : s.at ≡ rest = same_tail text (spells at.stretch (46 ∷ [])) s.at sentence rest parts e (omega (arith, s.early, f.shortest s.at at)) in
    s.is ∙ ap Some same

no_end : (o : Option (List ℕ)) (text : List ℕ) → sentence_end text ≡ o → ((other : List ℕ) → Ends text other → ⊥) → sentence_end text ≡ None
no_end None text e never = e
no_end (Some rest) text e never = absurd (never rest (ends text rest e))

-- the piece at the first byte is the sentence
one_begun : (kind : Kind) (sentence rest : List ℕ) → BeginsSentence (sentence ++ rest) → IsSentence kind sentence rest → Begun (sentence ++ rest) (Sentence kind (length sentence))
unfolding Begun
one_begun Bullet sentence rest b s =
    let size : length sentence ≡ s.count = ap length s.run ∙ length-replicate s.count s.mark in
    subst (λ t. Begun (t ++ rest) (Sentence Bullet (length sentence))) (sym s.run)
    (subst (λ n. Begun (replicate s.count s.mark ++ rest) (Sentence Bullet n)) (sym size) (bullet_begun s.count s.mark rest s.bullet s.some s.longest))
one_begun BraceOpen sentence rest b s =
    let open_brace : Begun ((123 ∷ []) ++ rest) (Sentence BraceOpen 1) = refl in
    subst (λ t. Begun (t ++ rest) (Sentence BraceOpen (length t))) (sym s) open_brace
one_begun BraceClose sentence rest b s =
    let close_brace : Begun ((125 ∷ []) ++ rest) (Sentence BraceClose 1) = refl in
    subst (λ t. Begun (t ++ rest) (Sentence BraceClose (length t))) (sym s) close_brace
one_begun Plain [] rest b s = absurd s.0
one_begun Plain (c ∷ sentence) rest b s =
    let text : List ℕ = c ∷ (sentence ++ rest) in
    let first : c ≡ b.first = cc in
    let unblank : is_blank c ≡ false = ap is_blank first ∙ b.unblank in
    let len : length text - length rest ≡ length (c ∷ sentence) = omega (arith, length-append (c ∷ sentence) rest) in
    plain_begun (opens c (sentence ++ rest)) c (sentence ++ rest) refl s.0 unblank b.uncommented
    ∙ ap (plain_piece text) (first_end text (c ∷ sentence) rest refl s.1)
    ∙ ap (Sentence Plain) len
one_begun Unfinished [] rest b s = absurd s.0
one_begun Unfinished (c ∷ sentence) rest b s =
    let text : List ℕ = c ∷ (sentence ++ rest) in
    let first : c ≡ b.first = cc in
    let unblank : is_blank c ≡ false = ap is_blank first ∙ b.unblank in
    let whole : text ≡ c ∷ sentence = ap (λ r. c ∷ (sentence ++ r)) s.1 ∙ ap (λ t. c ∷ t) (append-nil sentence) in
    let never : (other : List ℕ) → Ends text other → ⊥ = λ other e. s.2 other (subst (λ t. Ends t other) whole e) in
    plain_begun (opens c (sentence ++ rest)) c (sentence ++ rest) refl s.0 unblank b.uncommented
    ∙ ap (plain_piece text) (no_end (sentence_end text) text refl never)
    ∙ ap (λ t. Sentence Unfinished (length t)) whole

begun_piece : (text : List ℕ) (kind : Kind) (n at : ℕ) → Begun text (Sentence kind n) → 0 < n → n ≤ length text → sentences at 0 text ≡ record { from = at; to = at + n; kind = kind } ∷ sentences (at + n) 0 (drop n text)
unfolding Begun
begun_piece [] kind n at h some within = absurd h
begun_piece (b ∷ rest) kind n at h some within = sentences-sentence (b ∷ rest) at n kind (omega arith) h some within

nonempty : (kind : Kind) (sentence rest : List ℕ) → IsSentence kind sentence rest → 0 < length sentence
nonempty Bullet sentence rest s = omega (arith, s.some, ap length s.run, length-replicate s.count s.mark)
nonempty BraceOpen sentence rest s = omega (arith, ap length s)
nonempty BraceClose sentence rest s = omega (arith, ap length s)
nonempty Plain [] rest s = absurd s.0
nonempty Plain (c ∷ sentence) rest s = omega arith
nonempty Unfinished [] rest s = absurd s.0
nonempty Unfinished (c ∷ sentence) rest s = omega arith

same_span : (span : Span) (from to : ℕ) → span.from ≡ from → span.to ≡ to → span ≡ record { from = from; to = to; kind = span.kind }
same_span span from to e f =
    let one : span ≡ record { from = from; to = span.to; kind = span.kind } = ap (λ a. record { from = a; to = span.to; kind = span.kind }) e in
    let two : ◌≡◌ {A = Span} (record { from = from; to = span.to; kind = span.kind }) (record { from = from; to = to; kind = span.kind }) = ap (λ b. record { from = from; to = b; kind = span.kind }) f in
    one ∙ two

unique : (total at : ℕ) (text : List ℕ) (spans : List Span) → at + length text ≡ total → IsSplit total text spans → spans ≡ sentences at 0 text
unique total at text [] e h =
    let s = skips h.gap [] total at h.is_gap (ap (λ t. at + length t) (sym h.spelled) ∙ e) in
    sym (ap (sentences at 0) h.spelled ∙ s.same)
unique total at text (span ∷ spans) e h =
    let n = h.1 in
    let rest : List ℕ = h.0 in
    let body : List ℕ = n.sentence ++ rest in
    let s = skips n.gap body total at n.is_gap (ap (λ t. at + length t) (sym n.spelled) ∙ e) in
    let size : length body ≡ length n.sentence + length rest = length-append n.sentence rest in
    let len : ℕ = length n.sentence in
    let piece = begun_piece body span.kind len s.place (one_begun span.kind n.sentence rest n.begins_one n.is_one) (nonempty span.kind n.sentence rest n.is_one) (omega (arith, size)) in
    let behind : drop len body ≡ rest = (split_at body n.sentence rest len refl (omega (arith, size))).1 in
    let from : span.from ≡ s.place = omega (arith, n.from_is, s.placed) in
    let to : span.to ≡ s.place + len = omega (arith, n.to_is, s.placed, size) in
    let later : spans ≡ sentences (s.place + len) 0 rest = unique total (s.place + len) rest spans (omega (arith, s.placed, size)) h.2 in
    ap (λ x. x ∷ spans) (same_span span s.place (s.place + len) from to)
    ∙ ap (λ ss. record { from = s.place; to = s.place + len; kind = span.kind } ∷ ss) (later ∙ ap (sentences (s.place + len) 0) (sym behind))
    ∙ sym (ap (sentences at 0) n.spelled ∙ s.same ∙ piece)

-- a split of a text is the one that the function gives
pub split_is : (text : List ℕ) (spans : List Span) → IsSplit (length text) text spans → spans ≡ sentences 0 0 text
split_is text spans h = unique (length text) 0 text spans (omega arith) h
