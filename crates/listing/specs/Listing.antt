-- Document 01, "Listings", and document 02, M-105: the formats of a listing, its reading and its writing.
use Rattle.std.specs.Prelude.{ℕ, zero, suc, ◌+◌, List, [], ◌∷◌, ◌++◌, get_or, length, drop, leb, eqb}
use Prim.Native.String.{String}
use Rattle.lane.specs.declared.Settings.{Settings}
use Rattle.lane.specs.Words.{pick}
use Rattle.runner.specs.Checks.{count_of, list_limit, list_answer}
use Rattle.listing.specs.declared.Reading.{Reading}
use Rattle.listing.specs.declared.Writing.{Writing}
use Rattle.listing.specs.Forms.{Form, lit, dec, name, bytes, literal, text, LF, begins, lines_in, Scan, taken, faulty, scan, render}

-- "Lines end in LF. .. Numbers are decimal with fixed digits": a line that holds one number.
abbrev pub number_line : String → ℕ → Form
number_line s w = text s ++ (dec w ∷ lit LF ∷ [])

-- "1 for edition and srcb, .. 4 elsewhere", and so many for count.
unfoldable pub header_with : ℕ → Form
header_with w =
    number_line "edition=" 1
    ++ (number_line "srcb=" 1
    ++ (number_line "offset=" 4
    ++ (number_line "cursor=" 4
    ++ (number_line "stride0=" 4
    ++ (number_line "stride1=" 4 ++ (number_line "stride2=" 4 ++ (number_line "stride3=" 4 ++ number_line "count=" w)))))))

-- "5 for imm, 2 for vb, vc, vd, mod"; the name has its own space.
unfoldable pub line : Form
line =
    text "op="
    ++ (name
    ∷ text "imm="
    ++ (dec 5
    ∷ text " vb="
    ++ (dec 2 ∷ text " vc=" ++ (dec 2 ∷ text " vd=" ++ (dec 2 ∷ text " mod=" ++ (dec 2 ∷ lit LF ∷ []))))))

-- A line for each instruction.
unfoldable pub lines : ℕ → Form
lines zero = []
lines (suc n) = line ++ lines n

-- ---- formats

-- What a format has of its own: the first line that marks it, its header, and the most instructions.
pub record Format : Type 0 where
  pub mark : List ℕ
  pub header : Form
  pub limit : ℕ

-- "an old listing has none and is read as before, with four digits and limit 1,024".
abbrev pub old : Format
old = record { mark = []; header = header_with 4; limit = 1024 }

-- "The listing's count .. become five digits, and a new first line format=2 marks it"; its limit is the library's.
abbrev pub two : Format
two = record { mark = bytes "format=2\n"; header = header_with 5; limit = list_limit }

-- The table of formats, the newest first.
abbrev pub formats : List Format
formats = two ∷ old ∷ []

-- "Only format 2 is written".
abbrev pub written : Format
written = two

-- The format of a text is the first of the table whose mark it begins with: every text begins with an old listing's, which is none.
unfoldable pub format_among : List Format → List ℕ → Format
format_among [] t = old
format_among (f ∷ fs) t = pick (begins f.mark t) f (format_among fs t)

abbrev pub format_of : List ℕ → Format
format_of t = format_among formats t

-- What stands before the instruction lines: the mark, and the header.
unfoldable pub head : Format → Form
head f = literal f.mark ++ f.header

-- The line at which the instruction lines begin, from 1 in the text as it stands: 10 in an old listing, 11 in format 2.
unfoldable pub first_line : Format → ℕ
first_line f = 1 + lines_in (head f)

-- ---- numbers

-- The header's numbers, and what they say.
unfoldable pub header_of : Settings → ℕ → List ℕ
header_of s count =
    s.edition ∷ s.srcb ∷ s.offset ∷ s.cursor ∷ s.stride0 ∷ s.stride1 ∷ s.stride2 ∷ s.stride3 ∷ count ∷ []

unfoldable pub settings_of : List ℕ → Settings
settings_of ns =
    record {
      edition = get_or ns 0 0;
      srcb = get_or ns 1 0;
      offset = get_or ns 2 0;
      cursor = get_or ns 3 0;
      stride0 = get_or ns 4 0;
      stride1 = get_or ns 5 0;
      stride2 = get_or ns 6 0;
      stride3 = get_or ns 7 0;
    }

abbrev pub count_in : List ℕ → ℕ
count_in ns = get_or ns 8 0

-- What is put in front of lent room; "words past the result stay".
abbrev pub in_front : List ℕ → List ℕ → List ℕ
in_front xs room = xs ++ drop (length xs) room

-- ---- reading

-- What a reading gives, and the list that it puts in front of the lent room.
pub record Read : Type 0 where
  pub reading : Reading
  pub list : List ℕ

-- "A refused reading gives the other settings as 0", "leaves that room untouched and returns length 0"; "0 steps".
unfoldable pub refused_reading : ℕ → ℕ → ℕ → Reading
refused_reading n place cursor =
    record {
      settings =
          record { edition = 0; srcb = 0; offset = 0; cursor = cursor; stride0 = 0; stride1 = 0; stride2 = 0; stride3 = 0 };
      answer = n;
      steps = 0;
      place = place;
      cursor = cursor;
      length = 0;
    }

abbrev pub refuse_read : ℕ → ℕ → ℕ → Read
refuse_read n place cursor = record { reading = refused_reading n place cursor; list = [] }

-- "Reading and writing take 0 steps and keep the cursor."
unfoldable pub accepted_reading : Settings → ℕ → Reading
accepted_reading s n = record { settings = s; answer = 0; steps = 0; place = 0; cursor = s.cursor; length = n }

-- "then the order above", of a list and settings that were read, and 11 "last of all": "Reading needs room for six words an instruction".
unfoldable pub read_list : ℕ → Settings → List ℕ → Read
read_list room s list =
    pick (eqb (list_answer s list).answer 0)
    (pick (leb (length list) room) (record { reading = accepted_reading s (length list); list = list }) (refuse_read 11 0 0))
    (refuse_read (list_answer s list).answer (list_answer s list).place s.cursor)

-- "then the rest of the text (10, the first line not in form, missing or extra)".
unfoldable pub read_rest : Format → ℕ → List ℕ → Scan → Read
read_rest f room ns (faulty k) = refuse_read 10 (first_line f + k) 0
read_rest f room ns (taken list extra) =
    pick (eqb (length extra) 0) (read_list room (settings_of ns) list) (refuse_read 10 (first_line f + count_in ns) 0)

-- "then the header, then count (5)", which "reads against the limit of the form in hand".
unfoldable pub read_header : Format → ℕ → Scan → Read
read_header f room (faulty k) = refuse_read 10 (1 + k) 0
read_header f room (taken ns rest) =
    pick (leb (count_in ns) f.limit) (read_rest f room ns (scan (lines (count_in ns)) rest)) (refuse_read 5 0 (settings_of ns).cursor)

-- A text in a format.
unfoldable pub read_as : Format → ℕ → List ℕ → Read
read_as f room t = read_header f room (scan (head f) t)

-- "11 in the library reads 1,048,576 bytes."
abbrev pub text_limit : ℕ
text_limit = 1048576

-- "Length is tried first (11)".
unfoldable pub read_text : ℕ → List ℕ → Read
read_text room t = pick (leb (length t) text_limit) (read_as (format_of t) room t) (refuse_read 11 0 0)

-- ---- writing

-- What a writing gives, and the bytes that it puts in front of the lent room.
pub record Write : Type 0 where
  pub writing : Writing
  pub bytes : List ℕ

-- A whole listing in a format, and the one that is written.
unfoldable pub listing_in : Format → Settings → List ℕ → List ℕ
listing_in f s list = render (head f) (header_of s (count_of list)) ++ render (lines (count_of list)) list

abbrev pub listing : Settings → List ℕ → List ℕ
listing s list = listing_in written s list

unfoldable pub refused_writing : ℕ → ℕ → ℕ → Writing
refused_writing n place cursor = record { answer = n; steps = 0; place = place; cursor = cursor; length = 0 }

abbrev pub refuse_write : ℕ → ℕ → ℕ → Write
refuse_write n place cursor = record { writing = refused_writing n place cursor; bytes = [] }

unfoldable pub accepted_writing : Settings → ℕ → Writing
accepted_writing s n = record { answer = 0; steps = 0; place = 0; cursor = s.cursor; length = n }

-- "The writer refuses by 3, 4, 5, 7, 8 and 9 as a run does", and by 11 last of all: "writing [needs room] for the whole listing".
unfoldable pub write_list : ℕ → Settings → List ℕ → Write
write_list room s list =
    pick (eqb (list_answer s list).answer 0)
    (pick (leb (length (listing s list)) room)
    (record { writing = accepted_writing s (length (listing s list)); bytes = listing s list })
    (refuse_write 11 0 0))
    (refuse_write (list_answer s list).answer (list_answer s list).place s.cursor)
