-- What a book shows: the machine's book.
use Rattle.model.specs.Book as model
use Rattle.book.specs.declared.book.Book.{Book}
use Rattle.book.specs.Records.{store}
use Rattle.book.specs.View.{view_of}

abbrev pub view : Book → model.Book
view b = view_of (store b.nodes.now b.places) b.contents
