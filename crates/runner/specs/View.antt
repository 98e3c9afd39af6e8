-- What a runner shows.
use Rattle.book.specs.Whole.{view}
use Rattle.sheet.specs.View.{sheet_view}
use Rattle.script.specs.Names.{listed}
use Rattle.runner.specs.declared.runner.Runner.{Runner}
use Rattle.runner.specs.State.{State}

abbrev pub runner_view : Runner → State
runner_view r =
    record { book = view r.book; lines = sheet_view r.lines; pairs = sheet_view r.pairs; names = listed r.names }
