use Rattle.std.proofs.Common.{sym}
use Rattle.simple_processor.specs.AnyAccounts.{origin_in}
use Rattle.simple_processor.proofs.Closing.{keeps, spans_are, fates_are, fits_are, lacking_are}
use Rattle.simple_processor.proofs.Closing.{late_are, losses_are, names_are, tickets_are}
use Rattle.simple_processor.proofs.processor.SimpleProcessor.close_out.Goals as goal

pub returns-clause-keeps : goal.returns-clause-keeps
returns-clause-keeps g c =
    let accounts = c.close-accounts.result in let x = c.close-accounts.ensures in
    rw (sym c.self.view_is)
    (keeps (origin_in c.self.inside.account).had
    (g.E.Exporter.handed accounts.exporter) x.agrees.bodies x.agrees.gains)

pub returns-clause-spans : goal.returns-clause-spans
returns-clause-spans g c =
    let accounts = c.close-accounts.result in
    rw (sym c.self.view_is)
    (spans_are (origin_in c.self.inside.account)
    (g.E.Exporter.handed accounts.exporter) accounts.totals accounts.ledger accounts.lost
    c.args.passes.items c.close-accounts.ensures)

pub returns-clause-fates : goal.returns-clause-fates
returns-clause-fates g c =
    let accounts = c.close-accounts.result in
    rw (sym c.self.view_is)
    (fates_are (origin_in c.self.inside.account)
    (g.E.Exporter.handed accounts.exporter) accounts.totals accounts.ledger accounts.lost
    c.args.passes.items c.close-accounts.ensures)

pub returns-clause-fits : goal.returns-clause-fits
returns-clause-fits g c =
    let accounts = c.close-accounts.result in
    rw (sym c.self.view_is)
    (fits_are (origin_in c.self.inside.account)
    (g.E.Exporter.handed accounts.exporter) accounts.totals accounts.ledger accounts.lost
    c.args.passes.items c.close-accounts.ensures)

pub returns-clause-lacking : goal.returns-clause-lacking
returns-clause-lacking g c =
    let accounts = c.close-accounts.result in
    rw (sym c.self.view_is)
    (lacking_are (origin_in c.self.inside.account)
    (g.E.Exporter.handed accounts.exporter) accounts.totals accounts.ledger accounts.lost
    c.args.passes.items c.close-accounts.ensures)

pub returns-clause-tickets : goal.returns-clause-tickets
returns-clause-tickets g c =
    let accounts = c.close-accounts.result in
    tickets_are (origin_in c.self.inside.account)
    (g.E.Exporter.handed accounts.exporter) accounts.totals accounts.ledger accounts.lost
    c.args.passes.items c.close-accounts.ensures

pub returns-clause-names : goal.returns-clause-names
returns-clause-names g c =
    let accounts = c.close-accounts.result in
    names_are (origin_in c.self.inside.account)
    (g.E.Exporter.handed accounts.exporter) accounts.totals accounts.ledger accounts.lost
    c.args.passes.items c.close-accounts.ensures

pub returns-clause-losses : goal.returns-clause-losses
returns-clause-losses g c =
    let accounts = c.close-accounts.result in
    rw (sym c.self.view_is)
    (losses_are (origin_in c.self.inside.account)
    (g.E.Exporter.handed accounts.exporter) accounts.totals accounts.ledger accounts.lost
    c.args.passes.items c.close-accounts.ensures)

pub returns-clause-late : goal.returns-clause-late
returns-clause-late g c =
    let accounts = c.close-accounts.result in
    late_are (origin_in c.self.inside.account)
    (g.E.Exporter.handed accounts.exporter) accounts.totals accounts.ledger accounts.lost
    c.args.passes.items c.close-accounts.ensures
