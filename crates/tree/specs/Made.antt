-- How many slots the rules of trees take, counted along the rules that were applied: one for each piece made and each node written.
use Rattle.std.specs.Prelude.{ℕ, ◌+◌, Option}
use Rattle.tree.specs.Side.{Side}
use Rattle.tree.specs.Bare.{Bare, Leans, Joins, Splits, JoinAny, SplitAny, Put, PutAny, Cut, Crop}

abbrev pub leans_made : {side : Side} {a t u : Bare} → Leans side a t u → ℕ
leans_made (Leans.plain low) = 1
leans_made (Leans.once c d high is low) = 2
leans_made (Leans.twice c d e f high is low is_too) = 3

abbrev pub joins_made : {side : Side} {x y t : Bare} → Joins side x y t → ℕ
joins_made (Joins.level low low_too) = 1
joins_made (Joins.lower a b high is inner lean) = joins_made inner + leans_made lean
joins_made (Joins.exchange high mirrored) = joins_made mirrored

abbrev pub splits_made : {t x y : Bare} {p : ℕ} → Splits t p x y → ℕ
splits_made (Splits.halve some less) = 2
splits_made (Splits.smaller less inner join) = splits_made inner + joins_made join
splits_made (Splits.between is) = 0
splits_made (Splits.larger is some inner join) = splits_made inner + joins_made join

abbrev pub join_any_made : {l r t : Option Bare} → JoinAny l r t → ℕ
join_any_made JoinAny.no_left = 0
join_any_made JoinAny.no_right = 0
join_any_made (JoinAny.both join) = joins_made join

abbrev pub split_any_made : {t x y : Option Bare} {p : ℕ} → SplitAny t p x y → ℕ
split_any_made SplitAny.nothing = 0
split_any_made (SplitAny.start is) = 0
split_any_made (SplitAny.end some is) = 0
split_any_made (SplitAny.inside some less split) = splits_made split

abbrev pub put_made : {t u : Option Bare} {p : ℕ} {x : Bare} → Put t p x u → ℕ
put_made (Put.puts split first second) = split_any_made split + join_any_made first + join_any_made second

abbrev pub put_any_made : {t x u : Option Bare} {p : ℕ} → PutAny t p x u → ℕ
put_any_made PutAny.nothing = 0
put_any_made (PutAny.some put) = put_made put

abbrev pub cut_made : {t u : Option Bare} {p m : ℕ} → Cut t p m u → ℕ
cut_made (Cut.nothing is) = 0
cut_made (Cut.some some first second join) = split_any_made first + split_any_made second + join_any_made join

abbrev pub crop_made : {t u : Option Bare} {p m : ℕ} → Crop t p m u → ℕ
crop_made (Crop.crops first second) = split_any_made first + split_any_made second
