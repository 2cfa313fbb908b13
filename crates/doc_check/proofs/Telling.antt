-- What is told of a document that is checked to its end.
use Rattle.std.proofs.Common.{◌≡◌, ℕ, true, Option, ◌+◌, ◌-◌, ◌<◌, ◌≤◌, List, [], ◌∷◌, ◌++◌, map, length, get_or, take, drop, length-take, refl, sym, ◌∙◌, ap, subst, arith, All}
use Rattle.std.specs.List.{slice_range}
use Rattle.std.specs.Str.{IsUtf8}
use Rattle.std.proofs.lemmas.Bool.Decides.{nat_tests}
use Rattle.std.proofs.lemmas.List.{take_more, get_or-map, length-map}
use Rattle.base_core.specs.declared.kind.Kind.TheVariants.{Plain}
use Rattle.sentence_split.specs.declared.spans.Span.{Span}
use Rattle.sentence_split.specs.Sentences.{sentences}
use Rattle.sentence_split.specs.Within.{IsSpanOf}
use Rattle.prover_iface.specs.declared.diagnostics.RelDiag.{RelDiag}
use Rattle.prover_iface.specs.Laws.{IsDiag, TellsWithin}
use Rattle.prover_iface.specs.Meanings.{Meanings}
use Rattle.doc_check.specs.declared.diagnostics.AbsDiag.{AbsDiag}
use Rattle.doc_check.specs.Check.{sentence_at, span_of, count, state_from, state_after, shifted, told, left_open, checked}
use Rattle.doc_check.specs.Document.{Doc, doc, done, all_done, state_at}
use Rattle.doc_check.specs.Stands.{IsDoc}
use Rattle.doc_check.proofs.Placed.{sentence-utf8, sentence-short}
use Rattle.doc_check.proofs.More.{told-push, take_whole}
use Rattle.doc_check.proofs.Trail.{kept_told}

nowhere : Span
nowhere = record { from = 0; to = 0; kind = Plain }

-- diagnostics of a sentence stand within it
pub within_sentence : (text : List ℕ) (span : Span) (diags : List RelDiag) → IsSpanOf text span → All (IsDiag (slice_range text span.from span.to)) diags → All (λ diag. (diag.from ≤ span.to - span.from) × (diag.to ≤ span.to - span.from)) diags
within_sentence text span diags s h = λ k d less.
    let i = h k d less in
    let long = length-take (span.to - span.from) (drop span.from text) in
    (omega (arith, i.from_cut.0, long), omega (arith, i.to_cut.0, long))

module _ {M F : Type 0} (means : Meanings M) (of : F → M × List RelDiag) (dg : F → List RelDiag) (second : (f : F) → (of f).1 ≡ dg f) where
  seconds : (items : List F) → map (λ p. p.1) (map of items) ≡ map dg items
  seconds [] = refl
  seconds (f ∷ items) = ap (λ d. d ∷ map (λ p. p.1) (map of items)) (second f) ∙ ap (λ ds. dg f ∷ ds) (seconds items)

  module _ (text : List ℕ) (spans : List Span) (first : M) (items : List F) (h : IsDoc means text spans first (map of items)) where
    -- what is told of the sentence of a number
    told_here : (k : ℕ) → k < length items → get_or (map dg items) k [] ≡ means.diagnosed (state_from means means.first text (take k spans)) (sentence_at text (span_of spans k))
    told_here k less =
        let size : k < length (map of items) = omega (arith, less, length-map items of) in
        ap (λ ds. get_or ds k []) (sym (seconds items))
        ∙ get_or-map (λ p. p.1) (map of items) k (means.first, []) [] size
        ∙ kept_told means text spans first (map of items) h k (means.first, []) size
        ∙ ap (λ ss. means.diagnosed (state_from means means.first text (take k ss)) (sentence_at text (span_of ss k))) (sym h.split)

    -- and that of one sentence more
    pub told_next : (k : ℕ) (diags now : List AbsDiag) (given : List RelDiag) → k < length items → length items ≡ length spans → diags ≡ told means means.first text (take k spans) → given ≡ get_or (map dg items) k [] → now ≡ diags ++ map (shifted (span_of spans k).from) given → now ≡ told means means.first text (take (k + 1) spans)
    unfolding nowhere
    told_next k diags now given less all before is grown =
        grown
        ∙ ap (λ ds. ds ++ map (shifted (span_of spans k).from) given) before
        ∙ ap (λ ds. told means means.first text (take k spans) ++ map (shifted (span_of spans k).from) ds) (is ∙ told_here k less)
        ∙ sym (told-push means text means.first (take k spans) (span_of spans k))
        ∙ ap (told means means.first text) (sym (take_more spans k nowhere (omega (arith, less, all))))

    pub told_diags : TellsWithin means.diagnosed → IsUtf8 text → (k : ℕ) (given : List RelDiag) → k < length items → length items ≡ length spans → given ≡ get_or (map dg items) k [] → All (IsDiag (sentence_at text (span_of spans k)).text) given
    unfolding nowhere
    told_diags law utf8 k given less all is =
        let s = h.placed k nowhere (omega (arith, less, all)) in
        subst (All (IsDiag (sentence_at text (span_of spans k)).text)) (sym (is ∙ told_here k less))
        (law (state_from means means.first text (take k spans)) (sentence_at text (span_of spans k)) (sentence-utf8 text (span_of spans k) utf8 s) s.fit (sentence-short text (span_of spans k) h.short))

    pub span_here : (k : ℕ) → k < length items → length items ≡ length spans → IsSpanOf text (span_of spans k)
    unfolding nowhere
    span_here k less all = h.placed k nowhere (omega (arith, less, all))

pub told_read : {F : Type 0} (dg : F → List RelDiag) (items : List F) (k : ℕ) (f : F) (read : List RelDiag) → k < length items → read ≡ dg (get_or items k f) → read ≡ get_or (map dg items) k []
told_read dg items k f read less is = is ∙ sym (get_or-map dg items k f [] less)

-- all is told
pub told_end : {M : Type 0} (means : Meanings M) (text : List ℕ) (spans : List Span) (k : ℕ) (diags : List AbsDiag) → k ≡ length spans → diags ≡ told means means.first text (take k spans) → diags ≡ told means means.first text spans
told_end means text spans k diags e is = is ∙ ap (told means means.first text) (ap (λ n. take n spans) e ∙ take_whole spans)

pub told_checked : {M : Type 0} (means : Meanings M) (text : List ℕ) (spans seen : List Span) (m : M) (opened : Option ℕ) (before now : List AbsDiag) → spans ≡ sentences 0 0 text → seen ≡ spans → opened ≡ means.opened m → m ≡ state_after means text spans → before ≡ told means means.first text spans → now ≡ before ++ left_open opened seen → (now ≡ told means means.first text spans ++ left_open opened spans) × (now ≡ (checked means text).diags)
told_checked means text spans seen m opened before now split same open_is last all is =
    let whole : now ≡ told means means.first text spans ++ left_open opened spans =
    is ∙ ap (λ ds. ds ++ left_open opened seen) all ∙ ap (λ ss. told means means.first text spans ++ left_open opened ss) same in (
      whole,
      whole
          ∙ ap (λ o. told means means.first text spans ++ left_open o spans) (open_is ∙ ap means.opened last)
          ∙ ap (λ ss. told means means.first text ss ++ left_open (means.opened (state_after means text ss)) ss) split,
    )

-- a document of which all is finished
pub whole_doc : {M F : Type 0} (means : Meanings M) (of : F → M × List RelDiag) (number : F → ℕ) (text : List ℕ) (spans : List Span) (first : M) (items : List F) (old : Doc) → old ≡ doc text (map number items) → IsDoc means text spans first (map of items) → all_done old ≡ true → (length items ≡ length spans) × (state_at means text (length items) ≡ state_after means text spans) × IsDoc means text spans means.first (map of items)
whole_doc means of number text spans first items old seen h ended =
    let all : all_done (doc text (map number items)) ≡ true = subst (λ d. all_done d ≡ true) seen ended in
    let most : count text ≤ length (map number items) = grind (arith, nat_tests) in
    let size : length items ≡ length spans = omega (arith, most, h.few, length-map items number, length-map items of, ap length h.split) in (
      size,
      ap (λ ss. state_from means means.first text (take (length items) ss)) (sym h.split) ∙ ap (state_after means text) (ap (λ n. take n spans) size ∙ take_whole spans),
      subst (λ m. IsDoc means text spans m (map of items)) h.first_is h,
    )

-- the same, as it is handed on
pub shown_doc : {M F : Type 0} (means : Meanings M) (of : F → M × List RelDiag) (text shown : List ℕ) (spans : List Span) (items slice : List F) → shown ≡ text → slice ≡ items → IsDoc means text spans means.first (map of items) → IsDoc means shown spans means.first (map of slice)
shown_doc means of text shown spans items slice e f h =
    subst (λ t. IsDoc means t spans means.first (map of slice)) (sym e) (subst (λ xs. IsDoc means text spans means.first (map of xs)) (sym f) h)

pub shown_last : {M F : Type 0} (means : Meanings M) (number : F → ℕ) (text shown : List ℕ) (spans : List Span) (items : List F) (old : Doc) (n : ℕ) (m : M) → old ≡ doc text (map number items) → shown ≡ text → n ≡ done old → m ≡ state_at means old.text n → state_at means text (length items) ≡ state_after means text spans → m ≡ state_after means shown spans
shown_last means number text shown spans items old n m seen e count_is is whole =
    is ∙ ap (λ k. state_at means old.text k) count_is ∙ ap (λ d. state_at means d.text (done d)) seen
    ∙ ap (λ k. state_at means text k) (length-map items number) ∙ whole ∙ ap (λ t. state_after means t spans) (sym e)
