-- Where the bar of a span is.
use Rattle.std.specs.Prelude.{ℕ, ◌+◌, ◌-◌, ◌*◌, ◌/◌, min, max, ◌==◌, if◌then◌else◌}
use Rattle.trace_tree.specs.declared.span.TreeSpan.{TreeSpan}
use Rattle.trace_tree.specs.declared.bars.Bar.{Bar}

-- the end of a span, or its start where that is later
abbrev pub end_of : TreeSpan → ℕ
end_of span = max span.start_time_unix_nano span.end_time_unix_nano

-- the earlier start, and the later end
abbrev pub earlier_start : ℕ → TreeSpan → ℕ
earlier_start time span = min time span.start_time_unix_nano

abbrev pub later_end : ℕ → TreeSpan → ℕ
later_end time span = max time (end_of span)

-- the column of a time in a trace that takes this long, where all of it has this many columns
abbrev pub column_of : ℕ → ℕ → ℕ → ℕ
column_of width whole time = if whole == 0 then 0 else time * width / whole

-- the columns of a span that starts and ends so long after the start of the trace: at least one
unfoldable pub bar_of : ℕ → ℕ → ℕ → ℕ → Bar
bar_of width whole start «end» = record {
  first = min (column_of width whole start) (width - 1);
  end = max (min (column_of width whole «end») width)
      (min (column_of width whole start) (width - 1) + 1);
}
