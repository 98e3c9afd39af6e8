-- What the dimensions of a version tell.
use Rattle.model.specs.Answers.{BookTold, shaped}
use Rattle.ask.specs.declared.questions.Dimensions.{Dimensions}

abbrev pub shape_told : Dimensions → BookTold
shape_told d = shaped d.len d.height d.pieces
