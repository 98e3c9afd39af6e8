-- What is shown of a trace file: its kind and length and its text, or the fault that refuses it.
use Rattle.std.specs.Prelude.{ℕ, List, ◌++◌, length, Some, None, Ok, Err, codes, decimal, Option, Result}
use Rattle.shelf.specs.declared.frame.FrameFault.{FrameFault}
use Rattle.shelf.specs.declared.rows.Row.{Row}
use Rattle.shelf.specs.Frames.{Content, checked, frame_row, kind_words}
use Rattle.shelf.specs.Rows.{row_words}

-- "ring dump, 4 bytes" and the text, each on a line
abbrev pub shown_content : Content → List ℕ
shown_content content =
    kind_words content.kind ++ (codes ", " ++ (decimal (length content.text) ++ (codes " bytes\n" ++ (content.text ++ codes "\n"))))

-- "fault 3 shelf" on a line
abbrev pub shown_row : Row → List ℕ
shown_row row = codes "fault " ++ (row_words row ++ codes "\n")

abbrev pub shown_check : Result Content FrameFault → List ℕ
shown_check (Ok content) = shown_content content
shown_check (Err fault) = shown_row (frame_row fault)

-- of a file by its name and, where there is such a file, its bytes
abbrev pub shown : List ℕ → Option (List ℕ) → List ℕ
shown name None = name ++ codes ": missing\n"
shown name (Some bytes) = name ++ (codes ": " ++ shown_check (checked bytes))
