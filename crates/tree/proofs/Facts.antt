-- The facts of specs/Facts.antt.
use Rattle.std.proofs.Common.{◌≡◌, ◌+◌, ◌-◌, [], ◌++◌, length, refl, append_assoc, add_assoc, add-one, arith, lit<, length-append}
use native.Mathlib.Numerals.{add-two}
use Rattle.shelf.specs.Texts.{limit}
use Rattle.tree.specs.Tree.{size, pieces, spell, Within}
use Rattle.tree.specs.Facts.{FollowTheRules, SlotsInOrder, JoinAdds, JoinKeeps, SplitKeeps, EditsSpell, HeightsBounded, LowUnder, LowLaw, SlotsKeep, EditsCount, EditsCost}
use Rattle.tree.proofs.Steps.{cut_some}
use Rattle.tree.proofs.Shape.{leans, joins, written, join_writes}
use Rattle.tree.proofs.Balance.{even, cost}
use Rattle.tree.proofs.Measure.{measured, kept, last}
use Rattle.tree.proofs.Store.{placed, slots, all_stored, stored_more, grows_append}
use Rattle.tree.proofs.Heap.{stored_at, grows_take, stored_take}
use Rattle.tree.proofs.Only.{only_lean, only_join, only_split}
use Rattle.tree.proofs.Splits.{splits, split_even, split_placed, split_size}
use Rattle.tree.proofs.Spell.{split_spell, split_front, split_within, split_sizes}
use Rattle.tree.proofs.Fib.{fib_pieces, height_under}
use Rattle.tree.proofs.Edits
use Rattle.tree.proofs.Costs

pub follow_the_rules : FollowTheRules
follow_the_rules = record {
  leans = λ side a t x. (only_lean, λ e. rw e at (leans side a t));
  joins = λ n l r bl br b. (λ j. only_join j bl br, λ e. rw e at (joins n l r bl br));
  splits = λ n t p bt h1 h2 q. (λ s. only_split s bt, λ e. rw e at (splits n t p bt h1 h2));
}

pub slots_in_order : SlotsInOrder
slots_in_order n a c d e f =
    let two : n + 1 + 1 ≡ n + 2 = omega arith in
    record { plain_left = refl; plain_right = refl; once_left = refl; once_right = refl; twice_left = rw two; twice_right = rw two }

pub join_adds : JoinAdds
join_adds n l r =
    let w = join_writes n l r in
    record {
      size_is = measured size ◌+◌ add_assoc (λ s l r. refl) w;
      pieces_is = measured pieces ◌+◌ add_assoc (λ s l r. refl) w;
      spells = λ texts. measured (spell texts) ◌++◌ append_assoc (λ s l r. refl) w;
      within = λ texts. kept (Within texts) (λ s l r a b. (a, b)) (λ s l r h. h) w;
    }

pub join_keeps : JoinKeeps
join_keeps n l r bl br =
    let j = joins n l r bl br in
    let e = even j bl br in
    record {
      balanced = e.result.balanced;
      low = e.result.low;
      high = e.result.high;
      all_balanced = e.all;
      last = last (written j);
      placed = placed (written j);
      cost = λ d h1 h2. omega (arith, cost j bl br (d - 1) (omega arith) (omega arith));
    }

pub split_keeps : SplitKeeps
split_keeps n t p bt h1 h2 =
    let s = splits n t p bt h1 h2 in
    let e = split_even s bt in
    record {
      left_balanced = e.left;
      right_balanced = e.right;
      all_balanced = e.all;
      left_high = e.left_high;
      right_high = e.right_high;
      left_size = split_size s;
      right_size = omega (arith, split_sizes s, split_size s);
      spells = λ texts. split_spell texts s;
      front = λ texts w. (split_front texts s w).0;
      rest = λ texts w. (split_front texts s w).1;
      within = λ texts. split_within texts s;
      placed = split_placed s;
      cost = omega (arith, e.cost, e.left_high, e.right_high);
    }

pub edits_spell : EditsSpell
edits_spell texts limit trees t f = record {
  put_piece_spells = λ p k i m. Edits.put_piece texts limit trees (length trees) t p k i m refl f;
  put_spells = λ p x. Edits.put_any texts limit trees (length trees) t p x refl f;
  cut_spells = λ p m. Edits.cut texts limit trees (length trees) t p m refl f;
  crop_spells = λ p m. Edits.crop texts limit trees (length trees) t p m refl f;
}

low_law : LowLaw
low_law most h f texts t = height_under most h texts t f

pub low_42 : LowUnder limit 42
low_42 = low_law limit 42 (lit< tt)

pub heights_bounded : HeightsBounded
heights_bounded = ((refl, refl, λ n. rw (add-two, add-one)), fib_pieces, low_law, low_42)

pub slots_keep : SlotsKeep
slots_keep = (
  λ trees new g. record { slots = slots trees new g; all_stored = all_stored trees new g; old_stored = stored_more trees new },
  λ trees g. record { each_stored = stored_at trees g; grows_more = λ new h. grows_append [] trees new g h; grows_take = λ n. grows_take [] trees n g; stored_take = stored_take trees g },
)

pub edits_count : EditsCount
edits_count n t p = record {
  put_nothing = refl;
  cut_nothing = refl;
  put_piece_made = λ k i m. omega arith;
  put_made = λ x. simp length-append (omega arith);
  cut_made = λ m h. rw (cut_some n t p m h) (simp length-append (omega arith));
  crop_made = λ m. simp length-append;
}

pub edits_cost : EditsCost
edits_cost n t p h bt ht = record {
  put_piece_cost = λ k i m. Costs.put_piece n t p k i m h bt ht;
  put_cost = λ x bx hx. Costs.put_any n t p x h bt bx ht hx;
  cut_cost = λ m. Costs.cut n t p m h bt ht;
  crop_cost = λ m. Costs.crop n t p m h bt ht;
}
