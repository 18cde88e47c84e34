use Rattle.law_export.proofs.Shortened.{text-cut, texts-cut, others-stay, none-cut}
use Rattle.law_export.proofs.spans.texts_are_cut.Goals as goal

pub returns : goal.returns
returns c = record {
  text = text-cut;
  each_text = texts-cut;
  others = others-stay;
  no_limit = none-cut;
}
