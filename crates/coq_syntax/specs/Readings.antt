-- What the parsers make of a token.
use Rattle.coq_syntax.specs.declared.token.Token.{Token}
use Rattle.coq_syntax.specs.declared.words.TokenPlace.{TokenPlace}
use Rattle.coq_syntax.specs.declared.words.Word.{Word}

abbrev pub place_of : Token → TokenPlace
place_of t = record { from = t.from; to = t.to }

abbrev pub word_of : Token → Word
word_of t = record { text = t.text; place = place_of t }
