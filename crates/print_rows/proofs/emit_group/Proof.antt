-- `print_rows::emit_group` meets its contract. Assumes nothing.
use mathlib.Core.Path.{◌≡◌, sym, ap, ◌∙◌}
use mathlib.Core.List.{[], ◌∷◌}
use Prim.Native.Nat.{ℕ, ◌+◌, ◌-◌, ◌*◌, ◌^◌, ◌≤◌, ◌<◌}
use native.Mathlib.Omega.{arith}
use lib.ListN.{length}
use borrow.Author.Rules.{rules}
use Rattle.model.specs.TagTable.{tags_of}
use Rattle.table.specs.Places.{tabulate}
use Rattle.model.specs.Bytes.{Bytes}
use Rattle.model.specs.Record.{Record}
use Rattle.model.specs.Report.{Item}
use Rattle.model.specs.Printing.{data_record, group, hits}
use Rattle.record_display.specs.Lines.{line_in}
use Rattle.print_rows.specs.Emit.{RoomFor, Emitted, numbered_item, found_of, hit_of}
use Rattle.print_rows.proofs.EmitLaws.{emitted_empty, emitted_size, emitted_as, room_as}
use Rattle.print_rows.proofs.LentLaws.{one_line}
use Rattle.print_rows.proofs.PassLaws.{
  lines,
  two_first,
  two_then,
  two_emitted,
  printed,
  printed-start,
  Rows,
  rows_size,
  rows_more,
  rows-emitted,
  part-items,
  part-numbered,
  part-printable,
  part_ready,
  part-emitted,
  hits-start,
  hits_more,
  hits_done,
  hits-most,
  hits_fit,
  group-none,
  group-is,
}
use Rattle.print_rows.proofs.emit_group.Statement.{statement}
use Rattle.print_rows.proofs.emit_group.Tie as tie

abbrev invariant-loop : tie.invariant-loop-i
invariant-loop tags text words kind numbers n out₀ at write end₀ hit₀ i₀ out end hit i =
    (i ≤ n) × (hit ≡ hits (tabulate (numbered_item text words numbers) i)) × Emitted write out₀ out at (printed (tags_of tags.table.now) data_record (numbered_item text words numbers) i) end

abbrev decreases-loop : tie.decreases-loop-i
decreases-loop tags text words kind numbers n out₀ at write end₀ hit₀ i₀ out end hit i = n - i

abbrev Start : Type 0
Start = tie.Start invariant-loop decreases-loop

abbrev start : tie.At-loop-i invariant-loop decreases-loop → Start
start l = l.before.before.before.before.before

abbrev item : Start → ℕ → Item
item s = numbered_item s.args.text.now s.args.words.now s.args.numbers

-- how many were found, and how many hit
abbrev found : Start → Record
found s = found_of s.args.kind s.args.n

abbrev hit : Start → Record
hit s = hit_of s.args.kind (hits (tabulate (item s) s.args.n))

abbrev all : Start → Bytes
all s = lines (tags_of s.args.tags.table.now) (group (found_of s.args.kind) (hit_of s.args.kind) (tabulate (item s) s.args.n))

rows : (l : tie.At-loop-i invariant-loop decreases-loop) → let s = start l in
    Rows (tags_of s.args.tags.table.now) data_record s.args.text.now s.args.words.now s.args.numbers s.args.n s.args.write s.args.out.now s.args.at (all s) (lines (tags_of s.args.tags.table.now) (found s ∷ hit s ∷ []))
rows l =
    let s = start l in
    record { rows = s.requires.0; is = group-is _ (found_of s.args.kind) (hit_of s.args.kind) (item s) s.args.n (omega arith); room = s.requires.1.1; few = omega arith }

-- ---- a batch

abbrev batched : tie.After-min-m invariant-loop decreases-loop → tie.At-loop-i invariant-loop decreases-loop
batched b = b.before.before

within : (b : tie.After-min-m invariant-loop decreases-loop) → (batched b).loop-i.i + b.min-m.result ≤ (start (batched b)).args.n
within b = omega (arith, b.min-m.ensures, b.before.loop-i-test.true)

-- how many of the batch are hit
hit-there : (h : tie.After-count_hits-hit invariant-loop decreases-loop) → let b = h.before in
    h.count_hits-hit.result ≡ hits (tabulate (λ k. item (start (batched b)) ((batched b).loop-i.i + k)) b.min-m.result)
hit-there h =
    let a = (start (batched h.before)).args in
    h.count_hits-hit.ensures a.text.now ∙ ap hits (sym (part-items a.text.now a.words.now a.numbers (batched h.before).loop-i.i h.before.min-m.result))

-- ---- behind the rows

abbrev loop : tie.After-found_record invariant-loop decreases-loop → tie.At-loop-i invariant-loop decreases-loop
loop f = f.before.before

room : (a : tie.After-loop-i invariant-loop decreases-loop) → let l = a.before in
    RoomFor (start l).args.write l.loop-i.out l.loop-i.end (lines (tags_of (start l).args.tags.table.now) (found (start l) ∷ hit (start l) ∷ []))
room a = rows_more (rows a.before) a.before.loop-i.out a.before.loop-i.end a.before.loop-i.i a.before.loop-i.invariant.2 a.before.loop-i.invariant.0 a.loop-i-test.false

found-line : (f : tie.After-found_record invariant-loop decreases-loop) → let s = start (loop f) in
    line_in (tags_of s.args.tags.table.now) s.args.text.now f.found_record.result ≡ lines (tags_of s.args.tags.table.now) (found s ∷ [])
found-line f = let s = start (loop f) in one_line _ s.args.text.now _ (found s) (f.found_record.ensures s.args.text.now)

found-emitted : (e : tie.After-emit_record-found invariant-loop decreases-loop) → let l = loop e.before.before in
    Emitted (start l).args.write l.loop-i.out e.emit_record-found.new.out l.loop-i.end (lines (tags_of (start l).args.tags.table.now) (found (start l) ∷ [])) e.emit_record-found.result
found-emitted e = emitted_as _ _ _ (found-line e.before.before) e.emit_record-found.ensures

hit-line : (h : tie.After-hit_record invariant-loop decreases-loop) → let s = start (loop h.before.before.before.before.before) in
    line_in (tags_of s.args.tags.table.now) s.args.text.now h.hit_record.result ≡ lines (tags_of s.args.tags.table.now) (hit s ∷ [])
hit-line h =
    let l = loop h.before.before.before.before.before in
    let s = start l in
    one_line _ s.args.text.now _ (hit_of s.args.kind l.loop-i.hit) (h.hit_record.ensures s.args.text.now)
    ∙ ap (λ (k : ℕ). lines (tags_of s.args.tags.table.now) (hit_of s.args.kind k ∷ [])) (hits_done (item s) l.loop-i.i s.args.n l.loop-i.hit l.loop-i.invariant.0 h.before.before.before.before.before.before.loop-i-test.false l.loop-i.invariant.1)

few : (l : tie.At-loop-i invariant-loop decreases-loop) → length l.loop-i.out * 1 < 2 ^ 63
few l = omega (arith, (rows l).few, rows_size (rows l) l.loop-i.out l.loop-i.end l.loop-i.i l.loop-i.invariant.2 l.loop-i.invariant.0)

group-emitted : (e : tie.After-emit_record invariant-loop decreases-loop) → let l = loop e.before.before.before.before.before.before.before in
    Emitted (start l).args.write (start l).args.out.now e.emit_record.new.out (start l).args.at (all (start l)) e.emit_record.result
group-emitted e =
    let l = loop e.before.before.before.before.before.before.before in
    let s = start l in
    rows-emitted (rows l) l.loop-i.out l.loop-i.end l.loop-i.i l.loop-i.invariant.2 l.loop-i.invariant.0 e.before.before.before.before.before.before.before.before.loop-i-test.false
    (two_emitted _ s.args.write l.loop-i.out l.loop-i.end (found s) (hit s) (room e.before.before.before.before.before.before.before.before) (few l) (found-emitted e.before.before.before.before.before)
    (emitted_as _ _ _ (hit-line e.before.before) e.emit_record.ensures))

pub emit_group_spec : {M : Type 1} → statement M
emit_group_spec =
    tie.close
    (tie.spec
    invariant-loop
    decreases-loop
    (λ c. emitted_empty c.before.before.before.before.args.write c.before.before.before.before.args.out.now _ c.before.before.before.before.args.at (omega arith) (group-none _ (found_of c.before.before.before.before.args.kind) (hit_of c.before.before.before.before.args.kind) (item c.before.before.before.before) c.before.before.before.before.args.n (omega arith)))
    (λ c. (omega arith, hits-start (item c.before.before.before.before), emitted_empty c.before.before.before.before.args.write c.before.before.before.before.args.out.now _ c.before.before.before.before.args.at (omega arith) (printed-start _ data_record (item c.before.before.before.before))))
    (λ c. omega arith)
    (λ c κs. search rules)
    (λ c. omega (arith, (start (batched c)).requires.0.numbered.words, c.before.loop-i-test.true))
    (λ c κs. let l = batched c in (part-numbered (start l).requires.0.numbered l.loop-i.i c.min-m.result (within c), omega (arith, within c, (start l).requires.1.0.2)))
    (λ c. let l = batched c.before in
    let s = start l in
    hits_fit (item s) l.loop-i.i c.before.min-m.result s.args.n l.loop-i.hit c.count_hits-hit.result l.loop-i.invariant.1
    (rw (hit-there c) (hits-most (λ k. item s (l.loop-i.i + k)) c.before.min-m.result)) (within c.before) s.requires.1.0.2)
    (λ c. omega (arith, (start (batched c.before)).requires.0.numbered.words, c.before.before.loop-i-test.true))
    (λ c κs. let l = batched c.before.before in (
      part-printable (start l).requires.0 l.loop-i.i c.before.before.min-m.result (within c.before.before),
      part_ready (rows l) _ _ l.loop-i.i l.loop-i.invariant.2 c.before.before.min-m.result (within c.before.before),
    ))
    (λ c. omega (arith, within c.before.before.before.before.before))
    (λ c. omega (arith, within c.before.before.before.before.before, c.before.before.before.before.before.min-m.ensures, c.before.before.before.before.before.before.loop-i-test.true))
    (λ c. let l = batched c.before.before.before.before.before in (
      within c.before.before.before.before.before,
      hits_more (item (start l)) l.loop-i.i c.before.before.before.before.before.min-m.result l.loop-i.hit c.before.before.before.before.count_hits-hit.result l.loop-i.invariant.1 (hit-there c.before.before.before.before),
      part-emitted (rows l) _ _ l.loop-i.i l.loop-i.invariant.2 c.before.before.before.before.before.min-m.result (within c.before.before.before.before.before) c.before.before.emit_rows-end.ensures,
    ))
    (λ c. omega arith)
    (λ c κs. omega arith)
    (λ c κs. let l = loop c.before in
    let s = start l in
    room_as s.args.write l.loop-i.out l.loop-i.end _ _ (found-line c.before) (two_first _ s.args.write l.loop-i.out l.loop-i.end (found s) (hit s) (room c.before.before)))
    (λ c κs. omega arith)
    (λ c κs. let l = loop c.before.before.before.before.before.before in
    let s = start l in
    room_as s.args.write c.before.before.before.before.emit_record-found.new.out c.before.before.before.before.emit_record-found.result _ _ (hit-line c.before)
    (two_then _ s.args.write l.loop-i.out l.loop-i.end (found s) (hit s) (room c.before.before.before.before.before.before.before) (few l) (found-emitted c.before.before.before.before)))
    (λ c. let s = start (loop c.before.before.before.before.before.before.before.before.before) in
    emitted_size s.requires.1.1 (group-emitted c.before.before))
    (λ c. group-emitted c.before.before))
