use Rattle.otlp_wire.proofs.RowParts.{parts-of_row}
use Rattle.otlp_wire.proofs.reader.Fields.new.Goals as goal

pub returns-clause-parts : goal.returns-clause-parts
returns-clause-parts c = parts-of_row c.args.source.now
