-- What LOAD makes of a cell that STORE made of a word. Assumes nothing.
use Rattle.std.proofs.Common.{◌≡◌, ℕ, ◌+◌, ◌*◌, ◌/◌, ◌%◌, ◌^◌, ◌<◌, Bool, ◌⊎◌, inl, inr, arith}
use Rattle.lane.specs.Words.{pick}
use Rattle.lane.specs.Load.{bf16, loaded}
use Rattle.lane.specs.Store.{packed_bf16, stored_cell}

-- mod 2: unpacking what was packed, and packing what was unpacked
cell_sign : (s d e : ℕ) → d < 128 → e < 256 → (s * 2 ^ 15 + d * 2 ^ 8 + e) / 2 ^ 15 ≡ s
cell_sign s d e h k = omega arith

cell_digits : (s d e : ℕ) → d < 128 → e < 256 → (s * 2 ^ 15 + d * 2 ^ 8 + e) / 256 % 128 ≡ d
cell_digits s d e h k = omega arith

cell_exponent : (s d e : ℕ) → e < 256 → (s * 2 ^ 15 + d * 2 ^ 8 + e) % 256 ≡ e
cell_exponent s d e k = omega arith

word_sign : (s d e : ℕ) → d < 128 → e < 256 → (s * 2 ^ 31 + e * 2 ^ 23 + d * 2 ^ 16) / 2 ^ 31 ≡ s
word_sign s d e h k = omega arith

word_digits : (s d e : ℕ) → d < 128 → e < 256 → (s * 2 ^ 31 + e * 2 ^ 23 + d * 2 ^ 16) / 2 ^ 16 % 128 ≡ d
word_digits s d e h k = omega arith

word_exponent : (s d e : ℕ) → d < 128 → e < 256 → (s * 2 ^ 31 + e * 2 ^ 23 + d * 2 ^ 16) / 2 ^ 23 % 256 ≡ e
word_exponent s d e h k = omega arith

fields_of_half : (h : ℕ) → h / 2 ^ 15 * 2 ^ 15 + h / 2 ^ 7 % 256 * 2 ^ 7 + h % 128 ≡ h
fields_of_half h = omega arith

fields_of_cell : (x : ℕ) → x / 2 ^ 15 * 2 ^ 15 + x / 256 % 128 * 2 ^ 8 + x % 256 ≡ x
fields_of_cell x = omega arith

fields_of_word : (w : ℕ) → w / 2 ^ 31 * 2 ^ 31 + w / 2 ^ 23 % 256 * 2 ^ 23 + w / 2 ^ 16 % 128 * 2 ^ 16 ≡ w / 2 ^ 16 * 2 ^ 16
fields_of_word w = omega (arith, fields_of_half (w / 2 ^ 16), sign w, exponent w)
  where
    sign : (w : ℕ) → w / 2 ^ 31 ≡ w / 2 ^ 16 / 2 ^ 15
    sign w = omega arith

    exponent : (w : ℕ) → w / 2 ^ 23 ≡ w / 2 ^ 16 / 2 ^ 7
    exponent w = omega arith

pub packed_unpacked : (w : ℕ) → bf16 (packed_bf16 w) ≡ w / 2 ^ 16 * 2 ^ 16
unfolding bf16 packed_bf16
packed_unpacked w =
    let s = w / 2 ^ 31 in
    let d = w / 2 ^ 16 % 128 in
    let e = w / 2 ^ 23 % 256 in
    rw (cell_sign s d e (omega arith) (omega arith), cell_digits s d e (omega arith) (omega arith), cell_exponent s d e (omega arith)) (fields_of_word w)

pub unpacked_packed : (x : ℕ) → packed_bf16 (bf16 x) ≡ x
unfolding bf16 packed_bf16
unpacked_packed x =
    let s = x / 2 ^ 15 in
    let d = x / 256 % 128 in
    let e = x % 256 in
    rw (word_sign s d e (omega arith) (omega arith), word_digits s d e (omega arith) (omega arith), word_exponent s d e (omega arith) (omega arith))
    (fields_of_cell x)

module _ (inf : Bool) (old w : ℕ) where
  -- both in mod 2, or both in 7
  pub high_back : (m n : ℕ) → ((m ≡ 2) × (n ≡ 2)) ⊎ ((m ≡ 7) × (n ≡ 7)) → loaded n inf old (stored_cell m w) ≡ w / 2 ^ 16 * 2 ^ 16
  unfolding loaded stored_cell pick
  high_back m n (inl h) = simp (h.0, h.1) (packed_unpacked w)
  high_back m n (inr h) = simp (h.0, h.1)

  -- mods 6 and 9, either with either
  pub low_back : (m n : ℕ) → (m ≡ 6) ⊎ (m ≡ 9) → (n ≡ 6) ⊎ (n ≡ 9) → loaded n inf old (stored_cell m w) ≡ w % 2 ^ 16
  unfolding loaded stored_cell pick
  low_back m n (inl h) (inl k) = simp (h, k)
  low_back m n (inl h) (inr k) = simp (h, k)
  low_back m n (inr h) (inl k) = simp (h, k)
  low_back m n (inr h) (inr k) = simp (h, k)
