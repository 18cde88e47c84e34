-- The texts compute.
use Rattle.std.proofs.Common.{refl}
use Rattle.httpdate.specs.Calendar.{days_of_months, days_of_years}
use Rattle.httpdate.specs.Reader.{parse, parse_imf_fixdate}
use Rattle.httpdate.specs.Reader.{read_name, read_tag, read_time, read_two_digits, read_year}
use Rattle.worked_sdk.proofs.fields.waits.Goals as goal

pub returns-clause-date : goal.returns-clause-date
unfolding parse parse_imf_fixdate read_name read_tag read_time read_two_digits read_year
    days_of_months days_of_years
returns-clause-date c = refl

pub returns-clause-word : goal.returns-clause-word
unfolding parse read_name read_tag
returns-clause-word c = refl

pub returns-clause-empty : goal.returns-clause-empty
unfolding parse read_name read_tag
returns-clause-empty c = refl

pub returns-clause-sign : goal.returns-clause-sign
unfolding parse read_name read_tag
returns-clause-sign c = refl
