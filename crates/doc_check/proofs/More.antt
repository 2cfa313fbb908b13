-- What is told of one more sentence.
use Rattle.std.proofs.Common.{◌≡◌, ℕ, List, [], ◌∷◌, ◌++◌, length, take, append_assoc, append-nil, sym, ◌∙◌, ap, arith}
use Rattle.std.proofs.lemmas.Grind.{common_steps}
use Rattle.sentence_split.specs.declared.spans.Span.{Span}
use Rattle.prover_iface.specs.Meanings.{Meanings}
use Rattle.doc_check.specs.declared.diagnostics.AbsDiag.{AbsDiag}
use Rattle.doc_check.specs.Check.{sentence_at, state_from, told_at, told}

module _ {M : Type 0} (means : Meanings M) (text : List ℕ) where
  pub told-push : (m : M) (xs : List Span) (s : Span) → told means m text (xs ++ s ∷ []) ≡ told means m text xs ++ told_at means (state_from means m text xs) text s
  told-push m [] s = append-nil (told_at means m text s)
  told-push m (x ∷ xs) s =
      let here : List AbsDiag = told_at means m text x in
      let next : M = means.after m (sentence_at text x) in
      ap (λ ds. here ++ ds) (told-push next xs s)
      ∙ sym (append_assoc here (told means next text xs) (told_at means (state_from means next text xs) text s))

pub take_whole : (xs : List Span) → take (length xs) xs ≡ xs
take_whole xs = grind (arith, common_steps)
