-- What the accounts of a simple processor say. (profile)
use Rattle.std.specs.Prelude.{ℕ, List, Option, None}
use Rattle.span_exporter.specs.Handed.{Handed}
pub use Rattle.model_processor.specs.Holders.{Holder, processor, pass, origin_or, account_in}
pub use Rattle.model_processor.specs.Holders.{pass_account, pass_accounts, on_pass}

-- What a processor began with: how many passes it has, what its exporter showed that it had been
-- handed before, and how many bytes a body may have.
pub record Origin : Type 0 where
  pub passes : ℕ
  pub had : Option (List Handed)
  pub max_body : ℕ

-- what an account of a simple processor says: no worker has one
abbrev pub AnyAccount : Type 0
AnyAccount = Holder Origin

abbrev pub new_origin : Origin
new_origin = record { passes = 0; had = None; max_body = 0 }

-- what an account says that the processor began with
abbrev pub origin_in : AnyAccount → Origin
origin_in holder = origin_or new_origin holder
