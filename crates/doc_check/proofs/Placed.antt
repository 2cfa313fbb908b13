-- What is told of a text stands within it.
use Rattle.std.proofs.Common.{◌≡◌, ℕ, ◌-◌, ◌<◌, ◌≤◌, ◌^◌, Option, None, Some, IfSome, List, [], ◌∷◌, ◌++◌, map, length, drop, length-take, length-drop, sym, subst, arith, All}
use Rattle.std.specs.List.{AllByRecursion, slice_range}
use Rattle.std.specs.Str.{IsUtf8}
use Rattle.std.proofs.lemmas.List.Elements.{All-append, All-push, All-from_recursion, recursion_from_All}
use Rattle.std.proofs.lemmas.Str.{IsUtf8-between}
use Rattle.base_core.specs.declared.kind.Kind.TheVariants.{Plain}
use Rattle.base_core.specs.declared.limits.TheConstants.{TEXT_LIMIT}
use Rattle.sentence_split.specs.declared.spans.Span.{Span}
use Rattle.sentence_split.specs.Within.{IsSpanOf}
use Rattle.prover_iface.specs.declared.diagnostics.RelDiag.{RelDiag}
use Rattle.prover_iface.specs.Meanings.{Meanings}
use Rattle.prover_iface.specs.Laws.{IsDiag, TellsWithin}
use Rattle.doc_check.specs.declared.diagnostics.AbsDiag.{AbsDiag}
use Rattle.doc_check.specs.Check.{sentence_at, shifted, told, left_open, IsPlaced}

nothing_told : (n : ℕ) → All (IsPlaced n) []
nothing_told n = λ k d h. absurd (omega arith)

diag-placed : (text : List ℕ) (span : Span) (diag : RelDiag) → IsSpanOf text span → IsDiag (slice_range text span.from span.to) diag → IsPlaced (length text) (shifted span.from diag)
diag-placed text span diag s d =
    let long = length-take (span.to - span.from) (drop span.from text) in
    record {
      from_within = omega (arith, d.from_cut.0, long, s.ordered, s.within);
      to_within = omega (arith, d.to_cut.0, long, s.ordered, s.within);
    }

diags-placed : (text : List ℕ) (span : Span) (diags : List RelDiag) → IsSpanOf text span → AllByRecursion (IsDiag (slice_range text span.from span.to)) diags → AllByRecursion (IsPlaced (length text)) (map (shifted span.from) diags)
diags-placed text span [] s h = tt
diags-placed text span (d ∷ diags) s h = (diag-placed text span d s h.0, diags-placed text span diags s h.1)

one-placed : (text : List ℕ) (span : Span) (diags : List RelDiag) → IsSpanOf text span → All (IsDiag (slice_range text span.from span.to)) diags → All (IsPlaced (length text)) (map (shifted span.from) diags)
one-placed text span diags s h =
    All-from_recursion (IsPlaced (length text)) (map (shifted span.from) diags)
    (diags-placed text span diags s (recursion_from_All (IsDiag (slice_range text span.from span.to)) diags h))

pub sentence-utf8 : (text : List ℕ) (span : Span) → IsUtf8 text → IsSpanOf text span → IsUtf8 (slice_range text span.from span.to)
sentence-utf8 text span utf8 s = IsUtf8-between text span.from span.to utf8 s.ordered s.from_cut s.to_cut

pub sentence-short : (text : List ℕ) (span : Span) → length text ≤ TEXT_LIMIT → length (slice_range text span.from span.to) < 2 ^ 32
sentence-short text span short = omega (arith, length-take (span.to - span.from) (drop span.from text), length-drop span.from text, short)

told-placed : {M : Type 0} (means : Meanings M) (law : TellsWithin means.diagnosed) (text : List ℕ) → IsUtf8 text → length text ≤ TEXT_LIMIT → (m : M) (spans : List Span) → AllByRecursion (IsSpanOf text) spans → All (IsPlaced (length text)) (told means m text spans)
told-placed means law text utf8 short m [] h = nothing_told (length text)
told-placed means law text utf8 short m (span ∷ spans) h =
    All-append (IsPlaced (length text)) (map (shifted span.from) (means.diagnosed m (sentence_at text span))) (told means (means.after m (sentence_at text span)) text spans)
    (one-placed text span (means.diagnosed m (sentence_at text span)) h.0 (law m (sentence_at text span) (sentence-utf8 text span utf8 h.0) h.0.fit (sentence-short text span short)))
    (told-placed means law text utf8 short (means.after m (sentence_at text span)) spans h.1)

open-placed : (text : List ℕ) (opened : Option ℕ) (spans : List Span) → IfSome opened (λ n. n < length spans) → All (IsSpanOf text) spans → All (IsPlaced (length text)) (left_open opened spans)
open-placed text None spans h all = nothing_told (length text)
open-placed text (Some n) spans h all =
    let s = all n (record { from = 0; to = 0; kind = Plain }) h in
    All-push (IsPlaced (length text)) [] _ (nothing_told (length text)) (record { from_within = omega (arith, s.ordered, s.within); to_within = s.within })

-- all that is told
pub all-placed : {M : Type 0} (means : Meanings M) (law : TellsWithin means.diagnosed) (text : List ℕ) (m : M) (opened : Option ℕ) (spans : List Span) (diags : List AbsDiag) → IsUtf8 text → length text ≤ TEXT_LIMIT → All (IsSpanOf text) spans → IfSome opened (λ n. n < length spans) → diags ≡ told means m text spans ++ left_open opened spans → All (IsPlaced (length text)) diags
all-placed means law text m opened spans diags utf8 short all before is =
    subst (All (IsPlaced (length text))) (sym is)
    (All-append (IsPlaced (length text)) (told means m text spans) (left_open opened spans)
    (told-placed means law text utf8 short m spans (recursion_from_All (IsSpanOf text) spans all))
    (open-placed text opened spans before all))
