-- A document advances, or its text changes.
use Rattle.std.proofs.Common.{◌≡◌, ℕ, ◌+◌, ◌<◌, ◌≤◌, min, Result, Ok, Err, OnOk, List, [], length-take, get_or, take, refl, sym, ◌∙◌, ap, subst, arith}
use Rattle.std.specs.List.{common_prefix_len}
use Rattle.std.proofs.lemmas.Grind.{common_steps}
use Rattle.base_core.specs.declared.memory.NoMem.{NoMem}
use Rattle.prover_iface.specs.declared.diagnostics.RelDiag.{RelDiag}
use Rattle.prover_iface.specs.Exec.{Works}
use Rattle.prover_iface.specs.Sentences.{Sentence}
use Rattle.prover_iface.specs.Meanings.{Meanings}
use Rattle.memo_table.specs.declared.key.Key.{Key}
use Rattle.memo_table.specs.declared.table.Kept.{Kept}
use Rattle.memo_table.specs.Table.{Table, with_rows, with_kept}
use Rattle.memo_table.specs.Fits.{Fits}
use Rattle.doc_check.specs.declared.advance.Advance.{Advance}
use Rattle.doc_check.specs.Document.{Doc, doc, parts, done, next_of, next_key, state_here, took, taken, same_sentence, changed}
use Rattle.doc_check.specs.Stands.{Follows, Stands, Moved, IsKept, Runs, Advanced, cost_here}
use Rattle.doc_check.proofs.Trail.{first_same}

-- of a document of which nothing is finished
pub nothing_follows : (prefix : ℕ → List Sentence) (given : ℕ) (text : List ℕ) → Follows prefix given (doc text [])
nothing_follows prefix given text = record { known = λ k h. absurd (omega (arith, h)); stands = λ k h. absurd (omega (arith, h)) }

shared_of : Doc → List ℕ → ℕ
shared_of d text = common_prefix_len same_sentence (parts d.text) (parts text)

-- of another text
pub changed_follows : (prefix : ℕ → List Sentence) (given : ℕ) (text : List ℕ) (d : Doc) → Follows prefix given d → Follows prefix given (changed text d)
unfolding shared_of
changed_follows prefix given text d f =
    let kept : ℕ = min (done d) (shared_of d text) in
    let few : kept ≤ done d = grind (arith, common_steps) in
    let common : kept ≤ shared_of d text = grind (arith, common_steps) in
    let size : done (changed text d) ≡ kept = omega (arith, length-take kept d.numbers, few) in
    let same : (k : ℕ) → k < kept → get_or (take kept d.numbers) k 0 ≡ get_or d.numbers k 0 = λ k h. grind (arith, common_steps) in
    record {
      known = λ k h. omega (arith, same k (omega (arith, h, size)), f.known k (omega (arith, h, size, few)));
      stands = λ k h. ap prefix (same k (omega (arith, h, size))) ∙ f.stands k (omega (arith, h, size, few)) ∙ first_same d.text text (k + 1) (omega (arith, h, size, common));
    }

pub either_way : {A E X : Type 0} (result : Result A E) → X → OnOk result X
either_way (Ok a) x = x
either_way (Err e) x = tt

module _ {S M : Type 0} (meaning : S → M) (means : Meanings M) where
  pub changed_stands : (t : Table S) (text : List ℕ) (d e : Doc) → e ≡ changed text d → Stands meaning means t d → Stands meaning means t e
  changed_stands t text d e is s =
      record { prefix = s.prefix; fits = s.fits; follows = subst (Follows s.prefix t.given) (sym is) (changed_follows s.prefix t.given text d s.follows) }

  -- where sentences are taken of another document than the one before
  pub stands_from : (prefix : ℕ → List Sentence) (t u : Table S) (d e f : Doc) → (Follows prefix t.given d → Follows prefix t.given e) → ((p : ℕ → List Sentence) → Fits meaning means p t → Follows p t.given e → Fits meaning means p u × Follows p t.given f) → u ≡ with_rows t u.rows → Fits meaning means prefix t → Follows prefix t.given d → Fits meaning means prefix u × Follows prefix u.given f
  stands_from prefix t u d e f change step rows fits follows =
      let now = step prefix fits (change follows) in
      (now.0, subst (λ n. Follows prefix n f) (sym (ap (λ x. x.given) rows)) now.1)

  -- what is taken, by its parts
  pub taken_doc : (t u : Table S) (d e f : Doc) → e ≡ d → took f u.rows ≡ taken e t.rows → f ≡ (taken d t.rows).doc
  taken_doc t u d e f same is = ap (λ x. x.doc) is ∙ ap (λ x. (taken x t.rows).doc) same

  pub taken_rows : (t u : Table S) (d e f : Doc) → e ≡ d → took f u.rows ≡ taken e t.rows → u ≡ with_rows t u.rows → u ≡ with_rows t (taken d t.rows).rows
  taken_rows t u d e f same is rows = rows ∙ ap (with_rows t) (ap (λ x. x.rows) is ∙ ap (λ x. (taken x t.rows).rows) same)

  -- sentences were taken, and no more
  pub taken_moved : (prefix : ℕ → List Sentence) (t u : Table S) (d e : Doc) → ((p : ℕ → List Sentence) → Fits meaning means p t → Follows p t.given d → Fits meaning means p u × Follows p t.given e) → u ≡ with_rows t u.rows → Fits meaning means prefix t → Follows prefix t.given d → Moved meaning means prefix t u e
  taken_moved prefix t u d e step rows fits follows =
      let now = step prefix fits follows in
      let given : u.given ≡ t.given = ap (λ x. x.given) rows in
      record { now = prefix; same = λ n h. refl; more = omega (arith, given); fits = now.0; follows = subst (λ n. Follows prefix n e) (sym given) now.1 }

  pub step_moved : (prefix : ℕ → List Sentence) (t u v : Table S) (d e f : Doc) → ((p : ℕ → List Sentence) → Fits meaning means p t → Follows p t.given d → Fits meaning means p u × Follows p t.given e) → u ≡ with_rows t u.rows → ((p : ℕ → List Sentence) → Fits meaning means p u → Follows p u.given e → Moved meaning means p u v f) → Fits meaning means prefix t → Follows prefix t.given d → Moved meaning means prefix t v f
  step_moved prefix t u v d e f step rows run fits follows =
      let now = step prefix fits follows in
      let given : u.given ≡ t.given = ap (λ x. x.given) rows in
      let m = run prefix now.0 (subst (λ n. Follows prefix n e) (sym given) now.1) in
      record { now = m.now; same = λ n h. m.same n (omega (arith, given, h)); more = omega (arith, given, m.more); fits = m.fits; follows = m.follows }

  pub advanced : (units : ℕ) (t u v : Table S) (d e f : Doc) (result : Result Advance NoMem) → took e u.rows ≡ taken d t.rows → u ≡ with_rows t u.rows → Runs meaning means units u e result v f → Advanced meaning means units t d result v f
  advanced units t u v d e f result is rows ran =
      subst (λ x. Runs meaning means units x (taken d t.rows).doc result v f) (taken_rows t u d d e refl is rows)
      (subst (λ x. Runs meaning means units u x result v f) (taken_doc t u d d e refl is) ran)

  pub advance_works : {A E : Type 0} (units before now : ℕ) (t u : Table S) (d e : Doc) (result : Result A E) → took e u.rows ≡ taken d t.rows → Works (cost_here means e) units before now result → Works (cost_here means (taken d t.rows).doc) units before now result
  advance_works units before now t u d e result is works = subst (λ x. Works (cost_here means x) units before now result) (taken_doc t u d d e refl is) works

  -- an entry for the next sentence
  pub entry_kept : (t u : Table S) (d : Doc) (key : Key) (made : Kept S) (m : M) (diags : List RelDiag) (cost : ℕ) → key ≡ next_key d → meaning made.before ≡ state_here means d → meaning made.state ≡ m → m ≡ means.after (state_here means d) (next_of d) → made.diags ≡ diags → diags ≡ means.diagnosed (state_here means d) (next_of d) → made.cost ≡ cost → cost ≡ means.cost (state_here means d) (next_of d) → u ≡ with_kept t key made → IsKept meaning means t u d
  entry_kept t u d key made m diags cost key_is before state after told told_is spent cost_is kept = record {
    made = made;
    value = record { before_is = before; state_is = state ∙ after; diags_is = told ∙ told_is; cost_is = spent ∙ cost_is };
    kept = kept ∙ ap (λ k. with_kept t k made) key_is;
  }
