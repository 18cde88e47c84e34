use Rattle.std.proofs.Common.{◌≡◌, ◌++◌, ◌-◌, ◌^◌, string_bytes}
use Rattle.page_text.specs.Doubles.{digits_of}
use Rattle.page_text.proofs.double.push_digits.Given as goal

-- the digits that are written, and those that are left
abbrev pub invariant-loop : goal.invariant-loop
invariant-loop g l = record {
  all : string_bytes l.out ++ digits_of (l.places - l.counter) l.power l.rest
      ≡ string_bytes l.fn.out ++ digits_of l.places l.ten l.number;
  is_power : l.power ≡ 10 ^ (l.places - l.counter);
}
