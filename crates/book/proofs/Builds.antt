-- One building after another.
use Rattle.std.proofs.Common.{◌≡◌, ℕ, ◌≤◌, length, Ok, Err, Result, subst, arith}
use Rattle.std.proofs.lemmas.List.{length-append}
use Rattle.tree.specs.Rules as rules
use Rattle.tree.specs.Rules.{then}
use Rattle.book.specs.declared.node.Built.{Built}
use Rattle.book.specs.declared.node.NoRoom.{NoRoom}
use Rattle.book.specs.Built.{in_turn}
use Rattle.book.specs.Records.{Store}
use Rattle.book.specs.Building.{Made, Lacks, Builds}
use Rattle.book.proofs.Stores.{more, lacks_more}

pub made_then : {s s' s'' : Store} {b c : rules.Built} {x y : Built ℕ} → Made s s' b x → Made s' s'' c y → Made s s'' (then b c) (in_turn x y)
made_then {b = b} {c} m n =
    record {
      wrote = more m.wrote n.wrote;
      slot = n.slot;
      tree = n.tree;
      made = let a = m.made in let d = n.made in omega (arith, length-append b.new c.new);
    }

pub builds_as : {s s' : Store} {b c : rules.Built} {r : Result (Built ℕ) NoRoom} → b ≡ c → Builds s s' b r → Builds s s' c r
builds_as {s} {s'} {b} {c} {r} e g = subst (λ x. Builds s s' x r) e g

pub done : {s s' : Store} {b c : rules.Built} {x : Built ℕ} → b ≡ c → Made s s' b x → Builds s s' c (Ok x)
done e m = builds_as e (record { case = m })

pub fails : {s s' : Store} {b c : rules.Built} {m : ℕ} {e : NoRoom} → b ≡ c → m ≤ length b.new → Lacks s s' m → Builds s s' c (Err e)
fails {s} {s'} {b} f h l = builds_as f (record { case = lacks_more (length b.new) h l })
