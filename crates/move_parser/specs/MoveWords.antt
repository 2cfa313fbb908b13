-- The word that a proof move begins with.
use Rattle.std.specs.Prelude.{ℕ, bytes_eq, codes, if◌then◌else◌, Option, None, Some, List}
use Rattle.move_parser.specs.declared.move_word.MoveWord.{MoveWord}
use Rattle.move_parser.specs.declared.move_word.MoveWord.TheVariants.{Exact, Apply, Rewrite, Plain}
use Rattle.move_parser.specs.declared.move_word.PlainWord.{PlainWord}
use Rattle.move_parser.specs.declared.move_word.PlainWord.TheVariants.{Intro, Intros, Assumption, Split, Left, Right, Reflexivity, Admit, Simpl, Unfold, Destruct, Induction}

abbrev pub plain_text : PlainWord → List ℕ
plain_text Intro = codes "intro"
plain_text Intros = codes "intros"
plain_text Assumption = codes "assumption"
plain_text Split = codes "split"
plain_text Left = codes "left"
plain_text Right = codes "right"
plain_text Reflexivity = codes "reflexivity"
plain_text Admit = codes "admit"
plain_text Simpl = codes "simpl"
plain_text Unfold = codes "unfold"
plain_text Destruct = codes "destruct"
plain_text Induction = codes "induction"

-- how a word is written
abbrev pub text_of : MoveWord → List ℕ
text_of Exact = codes "exact"
text_of Apply = codes "apply"
text_of Rewrite = codes "rewrite"
text_of (Plain word) = plain_text word

unfoldable pub plain_word_of_text : List ℕ → Option PlainWord
plain_word_of_text text =
    if bytes_eq text (codes "intro") then Some Intro
    else (if bytes_eq text (codes "intros") then Some Intros
    else (if bytes_eq text (codes "assumption") then Some Assumption
    else (if bytes_eq text (codes "split") then Some Split
    else (if bytes_eq text (codes "left") then Some Left
    else (if bytes_eq text (codes "right") then Some Right
    else (if bytes_eq text (codes "reflexivity") then Some Reflexivity
    else (if bytes_eq text (codes "admit") then Some Admit
    else (if bytes_eq text (codes "simpl") then Some Simpl
    else (if bytes_eq text (codes "unfold") then Some Unfold
    else (if bytes_eq text (codes "destruct") then Some Destruct
    else (if bytes_eq text (codes "induction") then Some Induction
    else None)))))))))))

abbrev pub plain : Option PlainWord → Option MoveWord
plain None = None
plain (Some word) = Some (Plain word)

unfoldable pub word_of_text : List ℕ → Option MoveWord
word_of_text text =
    if bytes_eq text (codes "exact") then Some Exact
    else (if bytes_eq text (codes "apply") then Some Apply
    else (if bytes_eq text (codes "rewrite") then Some Rewrite
    else plain (plain_word_of_text text)))
