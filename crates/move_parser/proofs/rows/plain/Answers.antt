use Rattle.std.proofs.Common.{Vec, Global, Option}
use Rattle.std.proofs.lemmas.Result.{err_from_is_err_and}
use Rattle.coq_syntax.specs.declared.words.Word.{Word}
use Rattle.coq_syntax.specs.declared.moves.Pattern.{Pattern}
use Rattle.coq_syntax.specs.Forms.{pattern_of, move_of}
use Rattle.move_parser.specs.declared.move_word.PlainWord.TheVariants.{Intro, Intros, Assumption, Split, Left, Right, Reflexivity, Admit, Simpl, Unfold, Destruct, Induction}
use Rattle.move_parser.proofs.Words.{row_halted}
use Rattle.move_parser.proofs.rows.plain.Goals as goal

pub returns-in_err-name-in-Intro : goal.returns-in_err-name-in-Intro
returns-in_err-name-in-Intro c =
    let p = err_from_is_err_and c.from_residual.result c.from_residual.ensures.1 in
    row_halted Intro c.args.word (λ (x : Option Word). x) move_of c.args.keyword c.new-cursor.result c.args.rest.now p.0 _ c.from_residual.result c.in-Intro.is c.new-cursor.ensures p.1 p.2 c.in_err-name-in-Intro.ensures

pub returns-in_err-names-in-Intros : goal.returns-in_err-names-in-Intros
returns-in_err-names-in-Intros c =
    let p = err_from_is_err_and c.from_residual-in_err-names-in-Intros.result c.from_residual-in_err-names-in-Intros.ensures.1 in
    row_halted Intros c.args.word (λ (v : Vec Word Global). v.items) move_of c.args.keyword c.new-cursor.result c.args.rest.now p.0 _ c.from_residual-in_err-names-in-Intros.result c.in-Intros.is c.new-cursor.ensures p.1 p.2 c.in_err-names-in-Intros.ensures

pub returns-in_err-name-in-Unfold : goal.returns-in_err-name-in-Unfold
returns-in_err-name-in-Unfold c =
    let p = err_from_is_err_and c.from_residual-in_err-name-in-Unfold.result c.from_residual-in_err-name-in-Unfold.ensures.1 in
    row_halted Unfold c.args.word (λ (x : Word). x) move_of c.args.keyword c.new-cursor.result c.args.rest.now p.0 _ c.from_residual-in_err-name-in-Unfold.result c.in-Unfold.is c.new-cursor.ensures p.1 p.2 c.in_err-name-in-Unfold.ensures

pub returns-in_err-name-in-Destruct : goal.returns-in_err-name-in-Destruct
returns-in_err-name-in-Destruct c =
    let p = err_from_is_err_and c.from_residual-in_err-name-in-Destruct.result c.from_residual-in_err-name-in-Destruct.ensures.1 in
    row_halted Destruct c.args.word (λ (s : Word × Option Pattern). (s.0, pattern_of s.1)) move_of c.args.keyword c.new-cursor.result c.args.rest.now p.0 _ c.from_residual-in_err-name-in-Destruct.result c.in-Destruct.is c.new-cursor.ensures p.1 p.2 c.in_err-name-in-Destruct.ensures

pub returns-in_err-name-in-Induction : goal.returns-in_err-name-in-Induction
returns-in_err-name-in-Induction c =
    let p = err_from_is_err_and c.from_residual-in_err-name-in-Induction.result c.from_residual-in_err-name-in-Induction.ensures.1 in
    row_halted Induction c.args.word (λ (s : Word × Option Pattern). (s.0, pattern_of s.1)) move_of c.args.keyword c.new-cursor.result c.args.rest.now p.0 _ c.from_residual-in_err-name-in-Induction.result c.in-Induction.is c.new-cursor.ensures p.1 p.2 c.in_err-name-in-Induction.ensures

pub returns-in_err-end-in-Assumption : goal.returns-in_err-end-in-Assumption
returns-in_err-end-in-Assumption c =
    let p = err_from_is_err_and c.from_residual-in_err-end-in-Assumption.result c.from_residual-in_err-end-in-Assumption.ensures.1 in
    row_halted Assumption c.args.word (λ (u : Unit {0}). tt) move_of c.args.keyword c.new-cursor.result c.args.rest.now p.0 _ c.from_residual-in_err-end-in-Assumption.result c.in-Assumption.is c.new-cursor.ensures p.1 p.2 c.in_err-end-in-Assumption.ensures

pub returns-in_err-end-in-Split : goal.returns-in_err-end-in-Split
returns-in_err-end-in-Split c =
    let p = err_from_is_err_and c.from_residual-in_err-end-in-Split.result c.from_residual-in_err-end-in-Split.ensures.1 in
    row_halted Split c.args.word (λ (u : Unit {0}). tt) move_of c.args.keyword c.new-cursor.result c.args.rest.now p.0 _ c.from_residual-in_err-end-in-Split.result c.in-Split.is c.new-cursor.ensures p.1 p.2 c.in_err-end-in-Split.ensures

pub returns-in_err-end-in-Left : goal.returns-in_err-end-in-Left
returns-in_err-end-in-Left c =
    let p = err_from_is_err_and c.from_residual-in_err-end-in-Left.result c.from_residual-in_err-end-in-Left.ensures.1 in
    row_halted Left c.args.word (λ (u : Unit {0}). tt) move_of c.args.keyword c.new-cursor.result c.args.rest.now p.0 _ c.from_residual-in_err-end-in-Left.result c.in-Left.is c.new-cursor.ensures p.1 p.2 c.in_err-end-in-Left.ensures

pub returns-in_err-end-in-Right : goal.returns-in_err-end-in-Right
returns-in_err-end-in-Right c =
    let p = err_from_is_err_and c.from_residual-in_err-end-in-Right.result c.from_residual-in_err-end-in-Right.ensures.1 in
    row_halted Right c.args.word (λ (u : Unit {0}). tt) move_of c.args.keyword c.new-cursor.result c.args.rest.now p.0 _ c.from_residual-in_err-end-in-Right.result c.in-Right.is c.new-cursor.ensures p.1 p.2 c.in_err-end-in-Right.ensures

pub returns-in_err-end-in-Reflexivity : goal.returns-in_err-end-in-Reflexivity
returns-in_err-end-in-Reflexivity c =
    let p = err_from_is_err_and c.from_residual-in_err-end-in-Reflexivity.result c.from_residual-in_err-end-in-Reflexivity.ensures.1 in
    row_halted Reflexivity c.args.word (λ (u : Unit {0}). tt) move_of c.args.keyword c.new-cursor.result c.args.rest.now p.0 _ c.from_residual-in_err-end-in-Reflexivity.result c.in-Reflexivity.is c.new-cursor.ensures p.1 p.2 c.in_err-end-in-Reflexivity.ensures

pub returns-in_err-end-in-Admit : goal.returns-in_err-end-in-Admit
returns-in_err-end-in-Admit c =
    let p = err_from_is_err_and c.from_residual-in_err-end-in-Admit.result c.from_residual-in_err-end-in-Admit.ensures.1 in
    row_halted Admit c.args.word (λ (u : Unit {0}). tt) move_of c.args.keyword c.new-cursor.result c.args.rest.now p.0 _ c.from_residual-in_err-end-in-Admit.result c.in-Admit.is c.new-cursor.ensures p.1 p.2 c.in_err-end-in-Admit.ensures

pub returns-in_err-end-in-Simpl : goal.returns-in_err-end-in-Simpl
returns-in_err-end-in-Simpl c =
    let p = err_from_is_err_and c.from_residual-in_err-end-in-Simpl.result c.from_residual-in_err-end-in-Simpl.ensures.1 in
    row_halted Simpl c.args.word (λ (u : Unit {0}). tt) move_of c.args.keyword c.new-cursor.result c.args.rest.now p.0 _ c.from_residual-in_err-end-in-Simpl.result c.in-Simpl.is c.new-cursor.ensures p.1 p.2 c.in_err-end-in-Simpl.ensures
