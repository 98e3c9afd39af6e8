-- An argument is what the kind of its token wants.
use Rattle.std.proofs.Common.{◌≡◌, ℕ, ◌+◌, ◌-◌, ◌≤◌, true, false, ltb, leb, List, length, take, drop, is_some, Some, None, Ok, Option, sym, refl, ap, ◌∙◌, subst, arith, length-drop, length-take}
use Rattle.std.proofs.lemmas.List.{drop-drop}
use Rattle.std.proofs.lemmas.Bool.{ltb-false, leb-true, and_parts}
use Rattle.shelf.specs.Texts.{limit, stretch}
use Rattle.shelf.proofs.Copies.{stretch_take}
use Rattle.script.specs.declared.args.Arg.{Arg}
use Rattle.script.specs.declared.args.Arg.TheVariants as args
use Rattle.script.specs.declared.fault.ScriptFault.{ScriptFault}
use Rattle.script.specs.declared.fault.ScriptFault.TheVariants.{NoForm, AboveLimit, TakenName}
use Rattle.script.specs.declared.forms.Kind.{Kind}
use Rattle.script.specs.declared.forms.Kind.TheVariants as kind
use Rattle.script.specs.declared.lines.Line.{Line}
use Rattle.script.specs.declared.stretch.Stretch.{Stretch}
use Rattle.script.specs.Args.{value_of, stretch_of}
use Rattle.script.specs.Arguments.{shape, shaped, meant, argument}
use Rattle.script.specs.Commands.{Small, Known, New, Quoted}
use Rattle.script.specs.Names.{Named, meaning}
use Rattle.script.specs.Shapes.{plain, all_of, value, inner}
use Rattle.script.specs.Stretches.{count, bytes_of, Inside}
use Rattle.script.proofs.ArgKinds.{ok_of_cond, ok_unless, ok_same, version_of_ok, placed_ok}

-- what an argument of a kind holds
abbrev pub Right : List Named → (script : List ℕ) → Kind → Arg → Type 0
Right names script kind.Known arg = Known names (value_of arg)
Right names script kind.Fresh arg = New names script (stretch_of arg)
Right names script kind.Number arg = Small (value_of arg)
Right names script kind.Quoted arg = Quoted script (stretch_of arg)

none_of : (o : Option ℕ) → is_some o ≡ false → o ≡ None
none_of None e = refl
none_of (Some w) e = absurd (let z : ◌≡◌ {A = ℕ} 0 1 = cc in omega arith)

-- what stands between the first and the last byte of a stretch
inner_is : (from to : ℕ) (bytes : List ℕ) → 2 ≤ to - from → stretch 1 (to - from - 2) (stretch from (to - from) bytes) ≡ stretch (from + 1) (to - 1 - (from + 1)) bytes
inner_is from to bytes h =
    let less : to - from - 2 ≡ to - 1 - (from + 1) = omega arith in
    stretch_take 1 (to - from - 2) (to - from) (drop from bytes) (omega arith)
    ∙ ap (take (to - from - 2)) (drop-drop 1 from bytes)
    ∙ ap (λ n. take n (drop (from + 1) bytes)) less

module _ (names : List Named) (script : List ℕ) (end : ℕ) (line : Line) (token : Stretch) (i : Inside token (take end script)) where
  -- the token lies in the script, and its bytes are the script's
  in_script : Inside token script
  in_script = let short = length-take end script in record { some = i.some; within = omega (arith, i.within) }

  same : bytes_of token (take end script) ≡ bytes_of token script
  same = let short = length-take end script in stretch_take token.start (count token) end script (omega (arith, i.some, i.within))

  length_same : length (bytes_of token script) ≡ count token
  length_same = let w = in_script.within in simp (length-take, length-drop) (omega arith)

  right_meant : (k : Kind) (arg : Arg) → shape k (bytes_of token script) ≡ true → shaped names k token (bytes_of token script) ≡ Ok arg → Right names script k arg
  right_meant kind.Known arg s e = (bytes_of token script, (version_of_ok _ arg e).0)
  right_meant kind.Fresh arg s e =
      let p = ok_unless (is_some (meaning names (bytes_of token script))) TakenName (args.Name token) arg e in
      subst (Right names script kind.Fresh) p.1 (record { inside = in_script; is_word = s; free = none_of _ p.0 })
  right_meant kind.Number arg s e =
      let n = value 0 (bytes_of token script) in
      let p = ok_unless (ltb limit n) AboveLimit (args.Number n) arg e in
      subst (Right names script kind.Number) p.1 (ltb-false limit n p.0)
  right_meant kind.Quoted arg s e =
      let bytes = bytes_of token script in
      let parts = and_parts _ (all_of plain (inner bytes)) s in
      let counted = and_parts (leb 3 (length bytes)) (leb (length bytes) 258) (and_parts _ _ (and_parts _ _ parts.0).0).0 in
      let low = leb-true 3 (length bytes) counted.0 in
      let high = leb-true (length bytes) 258 counted.1 in
      let w = in_script.within in
      let n = length_same in
      subst (Right names script kind.Quoted) (ok_same {F = ScriptFault} (args.Quoted (record { start = token.start + 1; end = token.end - 1 })) arg e) (record {
        inside = record { some = omega arith; within = omega arith };
        short = omega arith;
        plain = ap (all_of plain) (sym (ap (λ m. stretch 1 (m - 2) bytes) n ∙ inner_is token.start token.end script (omega arith))) ∙ parts.1;
      })

  pub right : (k : Kind) (arg : Arg) → argument names (take end script) line k token ≡ Ok arg → Right names script k arg
  right k arg e =
      let p = placed_ok line token (meant names k token (bytes_of token (take end script))) arg e in
      let q = ok_of_cond (shape k (bytes_of token script)) (shaped names k token (bytes_of token script)) NoForm arg (sym (ap (meant names k token) same) ∙ p) in
      right_meant k arg q.0 q.1
