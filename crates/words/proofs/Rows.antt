-- What is left of a row's bytes, and of the rows. Assumes nothing.
use Rattle.std.proofs.Common.{◌≡◌, sym, ap, List, [], ◌++◌, ℕ, suc, ◌+◌, ◌-◌, ◌*◌, ◌/◌, ◌<◌, ◌≤◌, add-one, arith, length, get_or, take, drop, drop_of_length-le, drop-cons, length-append, length-drop, take_at, drop-drop}
use Rattle.std.proofs.lemmas.List.{drop_at}
use Rattle.words.specs.Dump.{row_bytes, spaced_byte, spaced, row_text, rows_text}

module _ (bs : List ℕ) (i : ℕ) where
  pub spaced_on : i < length bs → spaced (drop i bs) ≡ spaced_byte (get_or bs i 0) ++ spaced (drop (i + 1) bs)
  unfolding spaced
  spaced_on h = rw (drop-cons bs i 0 h, add-one i)

  pub spaced_over : length bs ≤ i → spaced (drop i bs) ≡ []
  unfolding spaced
  spaced_over h = rw (drop_of_length-le bs {i = i} h)

-- a row that stands in front of what is left, and the rows that are left behind it
module _ (xs : List ℕ) (i : ℕ) (left row more : List ℕ) (there : left ≡ drop (i * row_bytes) xs) (fronts : left ≡ row ++ more) (size : length row ≡ row_bytes) where
  pub more_left : more ≡ drop ((i + 1) * row_bytes) xs
  more_left =
      let next : (i + 1) * row_bytes ≡ i * row_bytes + row_bytes = omega arith in
      rw (next, ← drop-drop {A = ℕ}, ← there, fronts) (sym (drop_at row more row_bytes size))

  pub rows_on : rows_text xs (length xs / row_bytes - i) i ≡ row_text (i * row_bytes) row ++ rows_text xs (length xs / row_bytes - (i + 1)) (i + 1)
  unfolding rows_text
  rows_on =
      let enough : row_bytes ≤ length xs - i * row_bytes = omega (arith, length-drop (i * row_bytes) xs, ap length there, ap length fronts, length-append row more) in
      let one_more : length xs / row_bytes - i ≡ suc (length xs / row_bytes - (i + 1)) = omega arith in
      let first : take row_bytes (drop (i * row_bytes) xs) ≡ row = rw (← there, fronts) (take_at row more row_bytes size) in
      rw (one_more, first)

-- no whole row is left
pub rows_over : (xs : List ℕ) (i : ℕ) (left : List ℕ) → left ≡ drop (i * row_bytes) xs → length left < row_bytes → rows_text xs (length xs / row_bytes - i) i ≡ []
unfolding rows_text
rows_over xs i left there h =
    let few : length xs - i * 16 < 16 = omega (arith, length-drop (i * row_bytes) xs, ap length there) in
    let none : length xs / row_bytes - i ≡ 0 = omega arith in
    rw none
