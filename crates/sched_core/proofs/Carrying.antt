-- Numbers stand for what they stood for, from call to call.
use Rattle.std.proofs.Common.{◌≡◌, ℕ, ◌≤◌, List, refl, ◌∙◌, arith}
use Rattle.prover_iface.specs.Sentences.{Sentence}
use Rattle.prover_iface.specs.Meanings.{Meanings}
use Rattle.memo_table.specs.Table.{Table, with_rows}
use Rattle.memo_table.specs.Fits.{Fits}
use Rattle.doc_check.specs.Document.{Doc}
use Rattle.doc_check.specs.Stands.{Follows, Stands}
use Rattle.doc_check.proofs.Advancing.{taken_moved}
use Rattle.sched_core.specs.Coming.{Carries}

pub follows_still : (prefix now : ℕ → List Sentence) (given more : ℕ) (d : Doc) → ((n : ℕ) → n ≤ given → now n ≡ prefix n) → given ≤ more → Follows prefix given d → Follows now more d
follows_still prefix now given more d same le f = record {
  known = λ k h. omega (arith, f.known k h, le);
  stands = λ k h. same (_) (f.known k h) ∙ f.stands k h;
}

module _ {S M : Type 0} (meaning : S → M) (means : Meanings M) where
  pub carries_none : (t : Table S) (d : Doc) → Carries meaning means t t d d
  carries_none t d = record {
    text = refl;
    moved = λ prefix fits follows. record { now = prefix; same = λ n h. refl; more = omega arith; fits = fits; follows = follows };
  }

  pub carries_on : (t u v : Table S) (d e f : Doc) → Carries meaning means t u d e → Carries meaning means u v e f → Carries meaning means t v d f
  carries_on t u v d e f h k = record {
    text = k.text ∙ h.text;
    moved = λ prefix fits follows.
        let first = h.moved prefix fits follows in
        let second = k.moved first.now first.fits first.follows in
        record {
          now = second.now;
          same = λ n le. second.same n (omega (arith, le, first.more)) ∙ first.same n le;
          more = omega (arith, first.more, second.more);
          fits = second.fits;
          follows = second.follows;
        };
  }

  pub carries_stands : (t u : Table S) (d e : Doc) → Carries meaning means t u d e → Stands meaning means t d → Stands meaning means u e
  carries_stands t u d e h s =
      let now = h.moved s.prefix s.fits s.follows in
      record { prefix = now.now; fits = now.fits; follows = now.follows }

  pub taken_carries : (t u : Table S) (d e : Doc) → e.text ≡ d.text → u ≡ with_rows t u.rows → ((prefix : ℕ → List Sentence) → Fits meaning means prefix t → Follows prefix t.given d → Fits meaning means prefix u × Follows prefix t.given e) → Carries meaning means t u d e
  taken_carries t u d e text rows step = record { text = text; moved = λ prefix fits follows. taken_moved meaning means prefix t u d e step rows fits follows }
