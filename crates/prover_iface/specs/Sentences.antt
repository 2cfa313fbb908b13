-- Sentences without their places.
use Rattle.std.specs.Prelude.{ℕ, List}
use Rattle.base_core.specs.declared.kind.Kind.{Kind}

pub record Sentence : Type 0 where
  pub kind : Kind
  pub text : List ℕ

abbrev pub sentence : Kind → List ℕ → Sentence
sentence kind text = record { kind = kind; text = text }
