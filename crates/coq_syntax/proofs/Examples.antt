-- The worked examples hold.
use Rattle.std.proofs.Common.{refl, inl, lit≤}
use Rattle.coq_syntax.specs.Examples.{ArrowsGroupRight, NotIsLooserThanEqual, OrIsLooserThanAnd, NumeralsEndAt200, LevelsBeginAt1, RulesNest200Deep, OnlyTheFirstBarIsFree, TermsOfACommandNestAlone, PatternsHaveCases, RewritesMayGoBack, FaultsOfAMoveAreItsTerms}

pub arrows : ArrowsGroupRight
arrows = ((lit≤ tt, tt, tt, (lit≤ tt, tt, tt, tt)), refl)

pub not_equal : NotIsLooserThanEqual
not_equal = ((inl (lit≤ tt), (lit≤ tt, tt, lit≤ tt, tt)), refl)

pub or_and : OrIsLooserThanAnd
or_and = ((lit≤ tt, tt, (lit≤ tt, tt, tt, inl (lit≤ tt), tt), inl (lit≤ tt), tt), refl)

pub numerals : NumeralsEndAt200
numerals = (refl, refl)

pub levels : LevelsBeginAt1
levels = refl

pub nesting : RulesNest200Deep
nesting = (refl, refl)

pub bars : OnlyTheFirstBarIsFree
bars = (((tt, tt, ((tt, tt), (tt, (tt, tt), tt))), refl), λ holds. holds.2.1.0)

pub alone : TermsOfACommandNestAlone
alone = refl

pub patterns : PatternsHaveCases
patterns = (tt, refl)

pub backward : RewritesMayGoBack
backward = (tt, refl)

pub move_faults : FaultsOfAMoveAreItsTerms
move_faults = refl
