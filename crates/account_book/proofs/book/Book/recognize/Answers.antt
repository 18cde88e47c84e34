use Rattle.account_book.proofs.Facts.{contains_replaced, replaced_same}
use Rattle.account_book.proofs.book.Book.recognize.Goals as goal

pub returns-clause-there : goal.returns-clause-there
returns-clause-there g c =
    contains_replaced c.args.self.now c.args.account.now c.record.new.account c.record.new.self
    c.record.ensures.book

pub returns-clause-book : goal.returns-clause-book
returns-clause-book g c =
    replaced_same c.args.self.now c.args.account.now c.record.new.account c.record.new.self
    c.record.ensures.book c.record.ensures.account
