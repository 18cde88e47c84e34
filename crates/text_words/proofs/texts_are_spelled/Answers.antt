use Rattle.text_words.proofs.Spelled.{text_spelled, text_again}
use Rattle.text_words.proofs.texts_are_spelled.Goals as goal

pub returns : goal.returns
returns c = λ word text. (text_spelled word text, text_again word text)
