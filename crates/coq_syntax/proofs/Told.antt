-- What is said of the answer to a list is one value, and a refusal stands at a token or at the period.
use Rattle.std.proofs.Common.{◌≡◌, ℕ, inl, inr, Option, None, Result, Ok, Err, List, [], ◌∷◌, ◌++◌, refl, sym, ◌∙◌, ap}
use Rattle.base_core.specs.declared.refusals.Place.{Place}
use Rattle.base_core.specs.declared.refusals.Refusal.{Refusal}
use Rattle.base_core.specs.declared.refusals.Stop.{Stop}
use Rattle.base_core.specs.declared.refusals.Stop.TheVariants.{Refused, Out, NoMem}
use Rattle.base_core.specs.Answers.{Gives}
use Rattle.coq_syntax.specs.declared.token.Token.{Token}
use Rattle.coq_syntax.specs.Tokens.{Tokens}
use Rattle.coq_syntax.specs.Faults.{Fault}
use Rattle.coq_syntax.specs.Refusals.{Outcome, OneTreeOf}
use Rattle.coq_syntax.specs.MeetsWhole.{IsRefusedWhole, IsWholeAnswer}
use Rattle.coq_syntax.specs.Answers.{next_place, refusal, IsRefusal, IsPlaceIn, told, IsWholeParsed}
use Rattle.coq_syntax.proofs.OneRefusal.{one_whole_answer}

refusal_of : ℕ → Place → Refusal
refusal_of code place = record { code = code; place = place }

pub refusal_is : (tokens : Tokens) (r : Refusal) (f : Fault) → IsRefusal tokens r f → r ≡ refusal tokens f
unfolding refusal_of
refusal_is tokens r f h = ap (λ c. refusal_of c r.place) h.0 ∙ ap (refusal_of f.code) h.1

module _ {A : Type 0} (Is : List Token → A → Type 0) (fault_of : A → Option Fault) (one : OneTreeOf Is) (tokens : Tokens) (outcome : Outcome A) (meets : IsWholeAnswer Is fault_of tokens.items outcome) where
  ok : A → Outcome A
  ok x = Ok (x, [])

  err : Fault → Outcome A
  err f = Err f

  same : (o : Outcome A) → IsWholeAnswer Is fault_of tokens.items o → o ≡ outcome
  same o h = one_whole_answer Is fault_of one tokens.items o outcome h meets

  -- what is said of an answer is said of this one alone
  pub gives_told : (r : Result A Stop) → IsWholeParsed Is fault_of tokens r → Gives r (told tokens outcome)
  unfolding ok err
  gives_told (Ok x) h = ap (told tokens) (same (ok x) (refl, h.0, h.1))
  gives_told (Err (Refused r)) h = ap (λ k. Err (Refused k)) (refusal_is tokens r h.0 h.2) ∙ ap (told tokens) (same (err h.0) h.1)
  gives_told (Err (Out limit)) h = absurd h
  gives_told (Err NoMem) h = tt

-- a refusal stands at a token of the list, or at the period
pub refused_place : {A : Type 0} (Is : List Token → A → Type 0) (fault_of : A → Option Fault) (tokens : Tokens) (r : Refusal) → IsWholeParsed Is fault_of tokens (Err (Refused r)) → IsPlaceIn tokens r.place
refused_place Is fault_of tokens r h = by h.1
  where
    by : IsRefusedWhole Is fault_of tokens.items h.0 → IsPlaceIn tokens r.place
    by (inl k) = record { used = k.1.used; rest = h.0.rest; parts = k.1.parts; is = h.2.1 }
    by (inr k) = record { used = k.used; rest = h.0.rest; parts = k.parts ∙ ap (λ l. k.used ++ l) (sym k.place); is = h.2.1 }
