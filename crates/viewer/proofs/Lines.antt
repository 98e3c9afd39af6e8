-- The lines that show a checked frame.
use Rattle.std.proofs.Common.{◌≡◌, ℕ, List, ◌++◌, length, codes, decimal, append_assoc}
use Rattle.shelf.specs.declared.frame.Kind.{Kind}
use Rattle.shelf.specs.Frames.{Content, kind_words}
use Rattle.viewer.specs.Shown.{shown_content}

-- the line of a checked frame, and its text on the line behind
pub with_text : (name : List ℕ) (content : Content) (kind : Kind) (n : ℕ) (text : List ℕ) →
    kind ≡ content.kind → n ≡ length content.text → text ≡ content.text →
    name ++ (codes ": " ++ (kind_words kind ++ (codes ", " ++ (decimal n ++ codes " bytes\n")))) ++ text ++ codes "\n"
    ≡ name ++ (codes ": " ++ shown_content content)
with_text name content kind n text e f g = rw (e, f, g) (simp append_assoc)
