use Rattle.model.proofs.Finds.{found_first}
use Rattle.model.proofs.find_answers_the_first_place.Goals as goal

pub returns : goal.returns
returns c = λ pattern string from some. found_first pattern some string from
