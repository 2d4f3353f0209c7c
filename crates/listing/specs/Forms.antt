-- Document 01, "Listings": the form of a line is data, a list of items. One `scan` reads a text by a form, one `render` writes numbers by it.
use Rattle.std.specs.Prelude.{ℕ, zero, suc, ◌+◌, ◌-◌, ◌*◌, ◌/◌, ◌%◌, Bool, true, false, ◌&&◌, List, [], ◌∷◌, ◌++◌, map, get_or, length, drop, ltb, leb, eqb}
use Prim.Native.String.{String, len, char_at}
use Prim.Native.Char.{code}
use Rattle.lane.specs.Words.{pick}

-- The bytes of a text that a definition quotes.
unfoldable pub spell : ℕ → ℕ → String → List ℕ
spell zero i s = []
spell (suc n) i s = code (char_at s i) ∷ spell n (i + 1) s

unfoldable pub bytes : String → List ℕ
bytes s = spell (len s) 0 s

-- ---- digits, of any base up to 36

-- The byte of a digit: 0 to 9, then upper-case letters.
unfoldable pub glyph : ℕ → ℕ
glyph d = pick (ltb d 10) (d + 48) (d + 55)

-- The digit of a byte; 36, which no base has, where it is none.
unfoldable pub digit : ℕ → ℕ
digit c = pick (ltb c 48) 36 (pick (leb c 57) (c - 48) (pick (ltb c 65) 36 (pick (leb c 90) (c - 55) 36)))

-- "fixed digits": the w lowest digits of n, the highest first.
unfoldable pub digits : ℕ → ℕ → ℕ → List ℕ
digits b zero n = []
digits b (suc w) n = digits b w (n / b) ++ (glyph (n % b) ∷ [])

-- The first w bytes of a text are digits; a byte past its end, taken as 0, is none.
unfoldable pub numeric : ℕ → ℕ → List ℕ → Bool
numeric b zero t = true
numeric b (suc w) t = numeric b w t && ltb (digit (get_or t w 0)) b

-- The number that they write.
unfoldable pub number : ℕ → ℕ → List ℕ → ℕ
number b zero t = 0
number b (suc w) t = number b w t * b + digit (get_or t w 0)

-- ---- op names

-- "Fifteen operations, numbered", and document 02's STORE: a name with the space that ends it, so that none begins another.
unfoldable pub names : List (List ℕ)
names =
    [] ∷ bytes "LOAD " ∷ bytes "LOADI " ∷ bytes "LUT " ∷ bytes "SWAP " ∷ bytes "CONFIG " ∷ bytes "IADD " ∷ bytes "ABS " ∷ bytes "AND "
    ∷ bytes "OR "
    ∷ bytes "XOR "
    ∷ bytes "NOT "
    ∷ bytes "LZ "
    ∷ bytes "EXEXP "
    ∷ bytes "EXMAN "
    ∷ bytes "NOP "
    ∷ bytes "STORE "
    ∷ []

unfoldable pub name_of : ℕ → List ℕ
name_of op = get_or names op []

-- A text begins with p.
unfoldable pub begins : List ℕ → List ℕ → Bool
begins [] t = true
begins (a ∷ p) [] = false
begins (a ∷ p) (b ∷ t) = eqb b a && begins p t

-- The op, among 1 to n, whose name a text begins with; 0 where there is none.
unfoldable pub op_of : ℕ → List ℕ → ℕ
op_of zero t = 0
op_of (suc n) t = pick (begins (name_of (suc n)) t) (suc n) (op_of n t)

-- ---- forms

-- What a line is made of: a byte that stands there, w decimal or hexadecimal digits, or an op name.
pub data Item : Type 0 where
  lit : ℕ → Item
  dec : ℕ → Item
  hex : ℕ → Item
  name : Item

abbrev pub Form : Type 0
Form = List Item

-- A quoted text, byte for byte.
unfoldable pub literal : List ℕ → Form
literal bs = map lit bs

abbrev pub text : String → Form
text s = literal (bytes s)

-- "Lines end in LF."
abbrev pub LF : ℕ
LF = 10

-- ---- reading

-- What a scan finds: the numbers and the text after them, or the lines in form before the one that is not.
pub data Scan : Type 0 where
  taken : List ℕ → List ℕ → Scan
  faulty : ℕ → Scan

-- A scan that goes on after others took the numbers ns from k lines.
unfoldable pub joined : List ℕ → ℕ → Scan → Scan
joined ns k (taken ms t) = taken (ns ++ ms) t
joined ns k (faulty j) = faulty (k + j)

unfoldable pub follow : ℕ → Scan → (List ℕ → Scan) → Scan
follow k (taken ns t) g = joined ns k (g t)
follow k (faulty j) g = faulty j

-- One item.
unfoldable pub scan_byte : ℕ → List ℕ → Scan
scan_byte c [] = faulty 0
scan_byte c (b ∷ t) = pick (eqb b c) (taken [] t) (faulty 0)

unfoldable pub scan_number : ℕ → ℕ → List ℕ → Scan
scan_number b w t = pick (numeric b w t) (taken (number b w t ∷ []) (drop w t)) (faulty 0)

-- "An unknown op name is 10": no name, not in form.
unfoldable pub scan_name : List ℕ → Scan
scan_name t = pick (eqb (op_of 16 t) 0) (faulty 0) (taken (op_of 16 t ∷ []) (drop (length (name_of (op_of 16 t))) t))

unfoldable pub scan_item : Item → List ℕ → Scan
scan_item (lit c) t = scan_byte c t
scan_item (dec w) t = scan_number 10 w t
scan_item (hex w) t = scan_number 16 w t
scan_item name t = scan_name t

-- How many lines an item ends.
unfoldable pub ends : Item → ℕ
ends (lit c) = pick (eqb c LF) 1 0
ends (dec w) = 0
ends (hex w) = 0
ends name = 0

-- How many lines a form ends.
unfoldable pub lines_in : Form → ℕ
lines_in [] = 0
lines_in (i ∷ f) = ends i + lines_in f

-- A whole form, item by item.
unfoldable pub scan : Form → List ℕ → Scan
scan [] t = taken [] t
scan (i ∷ f) t = follow (ends i) (scan_item i t) (scan f)

-- ---- writing

-- One item with its number.
unfoldable pub render_item : Item → ℕ → List ℕ
render_item (lit c) n = c ∷ []
render_item (dec w) n = digits 10 w n
render_item (hex w) n = digits 16 w n
render_item name n = name_of n

-- How many numbers an item takes.
unfoldable pub takes : Item → ℕ
takes (lit c) = 0
takes (dec w) = 1
takes (hex w) = 1
takes name = 1

-- A whole form, from the numbers that are left.
unfoldable pub render : Form → List ℕ → List ℕ
render [] ns = []
render (i ∷ f) ns = render_item i (get_or ns 0 0) ++ render f (drop (takes i) ns)
