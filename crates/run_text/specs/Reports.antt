-- How much a run writes, by its settings
use Rattle.std.specs.Prelude.{Option, Some, None}
use Rattle.run_text.specs.declared.report.Report.{Report}
use Rattle.run_text.specs.declared.report.Report.TheVariants.{Whole, Summary}
use Rattle.run_text.specs.declared.choices.Settings.{Settings}
use Rattle.run_text.specs.declared.choices.Generated.{Generated}

-- The report of an input: a summary if the program makes the input itself, and else the whole
abbrev pub report_by : Option Generated → Report
report_by None = Whole
report_by (Some g) = Summary

-- The report of a run with these settings
abbrev pub report_of : Settings → Report
report_of s = report_by s.generated
