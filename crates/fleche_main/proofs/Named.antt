-- The names in the words of a command line.
use Rattle.std.proofs.Common.{◌≡◌, ℕ, ◌<◌, List, [], ◌∷◌, ◌++◌, length, map, append-nil, refl, sym, ◌∙◌, ap, arith}
use Rattle.std.proofs.lemmas.List.{length-map}
use Rattle.fleche_main.specs.Words.{names_of}

few_words : (words : List (List ℕ)) → length words < 2 → names_of words ≡ []
few_words [] h = refl
few_words (word ∷ []) h = refl
few_words (word ∷ next ∷ words) h = absurd (omega (arith, h))

-- fewer than two words name nothing
pub none_named : {W : Type 0} (spelled : W → List ℕ) (rest : List W) → length rest < 2 → names_of (map spelled rest) ≡ []
none_named spelled rest h = few_words (map spelled rest) (omega (arith, h, length-map rest spelled))

-- where fewer than two words are left, no name is left
pub names_end : {W : Type 0} (spelled : W → List ℕ) (names all : List (List ℕ)) (rest : List W) → length rest < 2 → names ++ names_of (map spelled rest) ≡ all → names ≡ all
names_end spelled names all rest h was =
    sym (ap (λ more. names ++ more) (none_named spelled rest h) ∙ append-nil names) ∙ was
