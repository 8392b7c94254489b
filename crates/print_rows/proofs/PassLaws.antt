-- Rows printed one after the other, and a group with its numbers of items found and hit. Assumes nothing.
use Prim.Native.Nat.{ℕ, zero, suc, ◌+◌, ◌-◌, ◌*◌, ◌^◌, ◌≤◌, ◌<◌}
use mathlib.Core.Path.{◌≡◌, refl, sym, ap, ◌∙◌}
use mathlib.Core.Bool.{Bool, true, false}
use mathlib.Core.List.{List, [], ◌∷◌, ◌++◌, append-nil}
use native.Mathlib.Omega.{arith}
use native.Mathlib.Nat.{zero-add}
use lib.Dec.{ltb}
use lib.ListN.{length}
use mir.Val as Val
use mir.Syntax.{w32}
use Rattle.table.specs.declared.Row.{Row}
use Rattle.table.specs.Places.{tabulate}
use Rattle.table.specs.Rows.{word, row_at}
use Rattle.table.proofs.TabulateLaws.{length-tabulate, tabulate_cong, tabulate-split}
use Rattle.model.specs.declared.Kind.{Kind}
use Rattle.model.specs.Bytes.{Bytes, newline}
use Rattle.model.specs.Limits.{u32_max}
use Rattle.model.specs.Lists.{filter, concat_map}
use Rattle.model.specs.Record.{Record}
use Rattle.model.specs.Report.{Item, count_of}
use Rattle.model.specs.Line.{print_record}
use Rattle.model.specs.Valid.{ItemFits}
use Rattle.model.specs.Printing.{start_record, data_record, hits, group, print_records}
use Rattle.model.proofs.ListLaws.{each_append, select_length}
use Rattle.table_item.specs.Items.{item_of, ItemInBounds}
use Rattle.print_rows.specs.Emit.{RoomFor, Emitted, Numbered, Printable, numbered_item, pass_records, hit_one}
use Rattle.print_rows.proofs.EmitLaws.{room-first, room-then, emitted_size, emitted_both}

abbrev pub lines : (tag : Kind → Bytes) → List Record → Bytes
lines tag = print_records tag

pub lines-append : (tag : Kind → Bytes) (xs ys : List Record) → lines tag (xs ++ ys) ≡ lines tag xs ++ lines tag ys
unfolding print_records
lines-append tag xs ys = each_append (λ r. print_record tag r ++ (newline ∷ [])) xs ys

-- ---- what a pass prints of an item

pub pass_starts : (tag : Kind → Bytes) (starts : Bool) (x : Item) → starts ≡ true → lines tag (start_record x) ≡ lines tag (pass_records starts x)
pass_starts tag starts x e = rw e

pub pass_data : (tag : Kind → Bytes) (starts : Bool) (x : Item) → starts ≡ false → lines tag (data_record x) ≡ lines tag (pass_records starts x)
pass_data tag starts x e = rw e

-- ---- two records, one after the other

module _ (tag : Kind → Bytes) (write : Bool) (out : Bytes) (at : ℕ) (x y : Record) (room : RoomFor write out at (lines tag (x ∷ y ∷ []))) where
  split : RoomFor write out at (lines tag (x ∷ []) ++ lines tag (y ∷ []))
  split = rw (lines-append tag (x ∷ []) (y ∷ [])) at room

  pub two_first : RoomFor write out at (lines tag (x ∷ []))
  two_first = room-first write out at (lines tag (x ∷ [])) (lines tag (y ∷ [])) split

  module _ (few : length out * 1 < 2 ^ 63) {out₁ : Bytes} {r₁ : ℕ} (first : Emitted write out out₁ at (lines tag (x ∷ [])) r₁) where
    pub two_then : RoomFor write out₁ r₁ (lines tag (y ∷ []))
    two_then = room-then write out at (lines tag (x ∷ [])) (lines tag (y ∷ [])) split few first

    pub two_emitted : {out₂ : Bytes} {r₂ : ℕ} → Emitted write out₁ out₂ r₁ (lines tag (y ∷ [])) r₂ → Emitted write out out₂ at (lines tag (x ∷ y ∷ [])) r₂
    two_emitted second = rw (lines-append tag (x ∷ []) (y ∷ [])) (emitted_both write out at (lines tag (x ∷ [])) (lines tag (y ∷ [])) split few first second)

-- ---- each row's records, for the first i of n rows

module _ (tag : Kind → Bytes) (records : Item → List Record) (f : ℕ → Item) where
  abbrev pub printed : ℕ → Bytes
  printed n = lines tag (concat_map records (tabulate f n))

  -- those from row i on
  abbrev rest : ℕ → ℕ → Bytes
  rest i n = lines tag (concat_map records (tabulate (λ k. f (i + k)) n))

  printed-split : (i n : ℕ) → printed (i + n) ≡ printed i ++ rest i n
  printed-split i n =
      ap (λ (l : List Item). lines tag (concat_map records l)) (tabulate-split f i n)
      ∙ ap (λ (l : List Record). lines tag l) (each_append records (tabulate f i) (tabulate (λ k. f (i + k)) n))
      ∙ lines-append tag (concat_map records (tabulate f i)) (concat_map records (tabulate (λ k. f (i + k)) n))

  rest-one : (i : ℕ) → rest i 1 ≡ lines tag (records (f i))
  unfolding concat_map tabulate
  rest-one i =
      ap (λ (l : List Record). lines tag l) (append-nil (records (f (i + 0))))
      ∙ ap (λ (k : ℕ). lines tag (records (f k))) (let z : i + 0 ≡ i = omega arith in z)

  -- the first i rows are emitted, and then m more
  module _ (write : Bool) (old : Bytes) (at n : ℕ) (all more : Bytes) (is : all ≡ printed n ++ more) (room : RoomFor write old at all) where
    pub room_so_far : (i : ℕ) → i ≤ n → RoomFor write old at (printed i)
    room_so_far i h =
        let e : i + (n - i) ≡ n = omega arith in
        let whole : printed n ≡ printed i ++ rest i (n - i) = ap printed (sym e) ∙ printed-split i (n - i) in
        room-first write old at (printed i) (rest i (n - i)) (rw whole at (room-first write old at (printed n) more (rw is at room)))

    module _ (few : length old * 1 < 2 ^ 63) (out : Bytes) (end i m : ℕ) (within : i + m ≤ n) (so_far : Emitted write old out at (printed i) end) where
      room_next : RoomFor write old at (printed i ++ rest i m)
      room_next = rw (printed-split i m) at (room_so_far (i + m) within)

      pub next-room : RoomFor write out end (rest i m)
      next-room = room-then write old at (printed i) (rest i m) room_next few so_far

      pub next-emitted : {out' : Bytes} {r : ℕ} → Emitted write out out' end (rest i m) r → Emitted write old out' at (printed (i + m)) r
      next-emitted e = rw (printed-split i m) (emitted_both write old at (printed i) (rest i m) room_next few so_far e)

  pub printed_done : (i n : ℕ) → i ≤ n → n ≤ i → printed i ≡ printed n
  printed_done i n h k = ap printed (let z : i ≡ n = omega arith in z)

  pub printed-start : printed 0 ≡ []
  unfolding print_records concat_map tabulate
  printed-start = refl

-- m of the numbered rows, from the i-th on
module _ (text ws : List ℕ) (numbers i m : ℕ) where
  same_place : (k : ℕ) → numbers + i + k ≡ numbers + (i + k)
  same_place k = omega arith

  pub part-items : tabulate (λ k. numbered_item text ws numbers (i + k)) m ≡ tabulate (numbered_item text ws (numbers + i)) m
  part-items = tabulate_cong (λ k. numbered_item text ws numbers (i + k)) (numbered_item text ws (numbers + i)) m (λ k h. rw (same_place k))

pub part-numbered : {ws : List ℕ} {numbers n : ℕ} → Numbered ws numbers n → (i m : ℕ) → i + m ≤ n → Numbered ws (numbers + i) m
part-numbered {ws} {numbers} ν i m h = record {
  words = omega (arith, ν.words);
  inside = λ k l. rw (same_place [] ws numbers i m k) (ν.inside (i + k) (omega arith));
}

pub part-printable : {text ws : List ℕ} {numbers n : ℕ} → Printable text ws numbers n → (i m : ℕ) → i + m ≤ n → Printable text ws (numbers + i) m
part-printable {text} {ws} {numbers} π i m h = record {
  numbered = part-numbered π.numbered i m h;
  good = λ k l. rw (same_place text ws numbers i m k) (π.good (i + k) (omega arith));
  fits = λ k l. rw (same_place text ws numbers i m k) (π.fits (i + k) (omega arith));
}

-- the n rows whose numbers are at word `numbers` on are to be printed, and then more
pub record Rows (tag : Kind → Bytes) (records : Item → List Record) (text ws : List ℕ) (numbers n : ℕ) (write : Bool) (old : Bytes) (at : ℕ) (all more : Bytes) : Type 0 where
  pub rows : Printable text ws numbers n
  pub is : all ≡ printed tag records (numbered_item text ws numbers) n ++ more
  pub room : RoomFor write old at all
  pub few : length old * 1 < 2 ^ 63

module _ {tag : Kind → Bytes} {records : Item → List Record} {text ws : List ℕ} {numbers n : ℕ} {write : Bool} {old : Bytes} {at : ℕ} {all more : Bytes} (p : Rows tag records text ws numbers n write old at all more)
    (out : Bytes) (end i : ℕ) (so_far : Emitted write old out at (printed tag records (numbered_item text ws numbers) i) end) where
  pub rows_size : i ≤ n → length out ≡ length old
  rows_size h = emitted_size (room_so_far tag records (numbered_item text ws numbers) write old at n all more p.is p.room i h) so_far

  pub rows_more : i ≤ n → n ≤ i → RoomFor write out end more
  rows_more h k =
      room-then write old at (printed tag records (numbered_item text ws numbers) n) more (rw p.is at p.room) p.few
      (rw (printed_done tag records (numbered_item text ws numbers) i n h k) at so_far)

  pub rows-emitted : i ≤ n → n ≤ i → {out' : Bytes} {r : ℕ} → Emitted write out out' end more r → Emitted write old out' at all r
  rows-emitted h k e =
      rw p.is
      (emitted_both write old at (printed tag records (numbered_item text ws numbers) n) more (rw p.is at p.room) p.few
      (rw (printed_done tag records (numbered_item text ws numbers) i n h k) at so_far) e)

  module _ (m : ℕ) (within : i + m ≤ n) where
    part-is : lines tag (concat_map records (tabulate (λ k. numbered_item text ws numbers (i + k)) m)) ≡ printed tag records (numbered_item text ws (numbers + i)) m
    part-is = ap (λ (l : List Item). lines tag (concat_map records l)) (part-items text ws numbers i m)

    pub part_ready : RoomFor write out end (printed tag records (numbered_item text ws (numbers + i)) m)
    part_ready = rw part-is at (next-room tag records (numbered_item text ws numbers) write old at n all more p.is p.room p.few out end i m within so_far)

    pub part-emitted : {out' : Bytes} {r : ℕ} → Emitted write out out' end (printed tag records (numbered_item text ws (numbers + i)) m) r
        → Emitted write old out' at (printed tag records (numbered_item text ws numbers) (i + m)) r
    part-emitted e =
        next-emitted tag records (numbered_item text ws numbers) write old at n all more p.is p.room p.few out end i m within so_far (rw part-is e)

  module _ (within : i < n) (row : Row) (here : row ≡ row_at ws (word ws (numbers + i))) where
    row_is : lines tag (concat_map records (tabulate (λ k. numbered_item text ws numbers (i + k)) 1)) ≡ lines tag (records (item_of text row))
    row_is = rw here (rest-one tag records (numbered_item text ws numbers) i)

    pub row_ready : (ItemInBounds text row × ItemFits (item_of text row)) × RoomFor write out end (lines tag (records (item_of text row)))
    row_ready = (
      rw here (p.rows.good i within, p.rows.fits i within),
      rw row_is at (next-room tag records (numbered_item text ws numbers) write old at n all more p.is p.room p.few out end i 1 (omega arith) so_far),
    )

    pub row-emitted : {out' : Bytes} {r : ℕ} → Emitted write out out' end (lines tag (records (item_of text row))) r → Emitted write old out' at (printed tag records (numbered_item text ws numbers) (i + 1)) r
    row-emitted e =
        next-emitted tag records (numbered_item text ws numbers) write old at n all more p.is p.room p.few out end i 1 (omega arith) so_far (rw row_is e)

-- ---- how many are hit

hits-append : (xs ys : List Item) → hits (xs ++ ys) ≡ hits xs + hits ys
unfolding hits filter
hits-append [] ys = sym (zero-add (hits ys))
hits-append (x ∷ xs) ys = go (ltb 0 (count_of x)) refl (hits-append xs ys)
  where
    go : (b : Bool) → ltb 0 (count_of x) ≡ b → hits (xs ++ ys) ≡ hits xs + hits ys → hits ((x ∷ xs) ++ ys) ≡ hits (x ∷ xs) + hits ys
    go true e h = rw (e, filter) (omega (arith, h))
    go false e h = rw (e, filter) h

hits-one : (x : Item) → hits (x ∷ []) ≡ hit_one x
unfolding hits filter
hits-one x = go (ltb 0 (count_of x)) refl
  where
    go : (b : Bool) → ltb 0 (count_of x) ≡ b → hits (x ∷ []) ≡ hit_one x
    go true e = rw (e, filter)
    go false e = rw (e, filter)

module _ (f : ℕ → Item) where
  pub hits-start : 0 ≡ hits (tabulate f 0)
  unfolding hits filter tabulate
  hits-start = refl

  pub hits_more : (i m h d : ℕ) → h ≡ hits (tabulate f i) → d ≡ hits (tabulate (λ k. f (i + k)) m) → h + d ≡ hits (tabulate f (i + m))
  hits_more i m h d e q = rw (e, q) (sym (ap hits (tabulate-split f i m) ∙ hits-append (tabulate f i) (tabulate (λ k. f (i + k)) m)))

  pub hits_next : (i h d : ℕ) → h ≡ hits (tabulate f i) → d ≡ hit_one (f i) → h + d ≡ hits (tabulate f (i + 1))
  unfolding tabulate
  hits_next i h d e q = let z : i + 0 ≡ i = omega arith in hits_more i 1 h d e (q ∙ rw (z, hits-one))

  pub hits_done : (i n h : ℕ) → i ≤ n → n ≤ i → h ≡ hits (tabulate f i) → h ≡ hits (tabulate f n)
  hits_done i n h a b e = e ∙ ap (λ (k : ℕ). hits (tabulate f k)) (let z : i ≡ n = omega arith in z)

  pub hits-most : (i : ℕ) → hits (tabulate f i) ≤ i
  unfolding hits
  hits-most i = rw (length-tabulate f i) at (select_length (λ x. ltb 0 (count_of x)) (tabulate f i))

  pub hits_fit : (i m n h d : ℕ) → h ≡ hits (tabulate f i) → d ≤ m → i + m ≤ n → n ≤ u32_max → Val.Fits w32 (h + d)
  hits_fit i m n h d e q k l = record { fits = omega (arith, hits-most i) }

-- ---- a group

module _ (tag : Kind → Bytes) (found hit : ℕ → Record) (f : ℕ → Item) where
  pub group-none : (n : ℕ) → n ≡ 0 → lines tag (group found hit (tabulate f n)) ≡ []
  unfolding print_records concat_map group tabulate
  group-none n e = rw e

  pub group-is : (n : ℕ) → 0 < n → lines tag (group found hit (tabulate f n)) ≡ printed tag data_record f n ++ lines tag (found n ∷ hit (hits (tabulate f n)) ∷ [])
  unfolding group tabulate
  group-is zero h = absurd (omega arith)
  group-is (suc n) h =
      lines-append tag (concat_map data_record (tabulate f (suc n))) (found (length (tabulate f (suc n))) ∷ hit (hits (tabulate f (suc n))) ∷ [])
      ∙ ap (λ (k : ℕ). printed tag data_record f (suc n) ++ lines tag (found k ∷ hit (hits (tabulate f (suc n))) ∷ [])) (length-tabulate f (suc n))
