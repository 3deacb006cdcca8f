-- Document 01, 'Cases to prove as a single statement over one list', weights in a digits field, clears in inverse video, the last places, and the rows that changed, on a
-- fresh memory of `rows` rows.
-- Each case compares everything that its sentence names, and the whole memory where nothing or only a stretch changes. Assumes nothing.
use Rattle.std.specs.Prelude.{ℕ, ◌+◌, ◌-◌, ◌*◌, ◌/◌, ◌%◌, ◌≡◌, Bool, true, false, cond, ◌&&◌, List, [], ◌∷◌, ◌++◌, length, get_or, replicate, set, drop, eqb}
use Rattle.terminal.specs.declared.Terminal.{Terminal}
use Rattle.changes.specs.Sets.{rows_of}
use Rattle.terminal.specs.State.{World, stated, fresh_world}
use Rattle.key.specs.Keys.{keyed}
use Rattle.post.specs.Posts.{posted_to}
use Rattle.streams.specs.Streams.{Hosted, fed}
use Rattle.report.specs.Reports.{reported}

-- ---- comparisons
unfoldable pub same : List ℕ → List ℕ → Bool
same [] [] = true
same [] (y ∷ ys) = false
same (x ∷ xs) [] = false
same (x ∷ xs) (y ∷ ys) = eqb x y && same xs ys

abbrev pub agree : Bool → Bool → Bool
agree true b = b
agree false true = false
agree false false = true

unfoldable pub same_stops : List Bool → List Bool → Bool
same_stops [] [] = true
same_stops [] (y ∷ ys) = false
same_stops (x ∷ xs) [] = false
same_stops (x ∷ xs) (y ∷ ys) = agree x y && same_stops xs ys

unfoldable pub same_state : Terminal → Terminal → Bool
same_state s t =
    eqb s.cursor.row t.cursor.row && eqb s.cursor.col t.cursor.col && eqb s.cursor.top t.cursor.top
    && agree s.format t.format && agree s.insert t.insert && agree s.lock t.lock
    && eqb s.pending t.pending && eqb s.reading t.reading
    && eqb s.number.sign t.number.sign && agree s.number.digit t.number.digit && eqb s.number.value t.number.value
    && same_stops s.tabs t.tabs && eqb s.changes.low t.changes.low && eqb s.changes.high t.changes.high

unfoldable pub same_memory : World → World → Bool
same_memory v w = same v.chars w.chars && same v.attrs w.attrs

unfoldable pub same_world : World → World → Bool
same_world v w = same_state v.state w.state && same_memory v w

-- the cursor's row, column and the window's top
unfoldable pub stands_at : ℕ → ℕ → ℕ → World → Bool
stands_at row col top w = eqb w.state.cursor.row row && eqb w.state.cursor.col col && eqb w.state.cursor.top top

-- ---- the runs: a fresh terminal, a reply buffer that holds any one reply, host bytes that are taken whole
unfoldable pub start : ℕ → World
start rows = fresh_world rows

unfoldable pub room : ℕ → List ℕ
room rows = replicate (rows * 160) 0

unfoldable pub after : ℕ → List ℕ → World
after rows bytes = (fed rows (start rows) bytes (room rows)).world

-- a host call's answer, bytes taken and bytes written, and the bytes written themselves before an untouched rest
unfoldable pub gives : ℕ → ℕ → ℕ → List ℕ → Hosted → Bool
gives rows number taken reply h =
    eqb h.number number && eqb h.taken taken && eqb h.written (length reply)
    && same h.reply (reply ++ drop (length reply) (room rows))

-- ESC [, ESC & a 4 C, ESC ], ESC W: a field of four cells, then format on
abbrev pub four_cells : List ℕ
four_cells = 27 ∷ 91 ∷ 27 ∷ 38 ∷ 97 ∷ 52 ∷ 67 ∷ 27 ∷ 93 ∷ 27 ∷ 87 ∷ []

-- ESC [, ESC and a kind, ESC & a 5 C, ESC ], ESC W: a field of five cells, then format on. Kind 6 is letters, 7 digits
abbrev pub five_cells : ℕ → List ℕ
five_cells kind = 27 ∷ 91 ∷ 27 ∷ kind ∷ 27 ∷ 38 ∷ 97 ∷ 53 ∷ 67 ∷ 27 ∷ 93 ∷ 27 ∷ 87 ∷ []

abbrev pub letters_form : List ℕ
letters_form = five_cells 54

abbrev pub digits_form : List ℕ
digits_form = five_cells 55

-- ESC & a 3 r 7 C, ESC [, ESC C, ESC ], ESC W: an only field, of one cell, at row 3, column 7
abbrev pub one_cell : List ℕ
one_cell = 27 ∷ 38 ∷ 97 ∷ 51 ∷ 114 ∷ 55 ∷ 67 ∷ 27 ∷ 91 ∷ 27 ∷ 67 ∷ 27 ∷ 93 ∷ 27 ∷ 87 ∷ []

-- ESC & a, the last row's number, r, the digits of a column, C
abbrev pub in_last_row : ℕ → List ℕ → List ℕ
in_last_row rows column = 27 ∷ 38 ∷ 97 ∷ (48 + (rows - 1) / 10) ∷ (48 + (rows - 1) % 10) ∷ 114 ∷ (column ++ (67 ∷ []))

-- A at row 0, then B in the last row, the cursor after it
abbrev pub last_row : ℕ → List ℕ
last_row rows = 65 ∷ (in_last_row rows (48 ∷ []) ++ (66 ∷ []))

-- ---- a text for the field at cell 0 of a form, all of it blank: as a post, from the host and by keys

-- text keys, one after the other: each answers 0, and the memory is then that of v
unfoldable pub types : ℕ → World → List ℕ → World → Bool
types rows w [] v = same_memory w v
types rows w (c ∷ text) v = let k = keyed rows w (room rows) c in eqb k.number 0 && types rows k.world text v

-- it takes the text: all three write it there and nothing else, and the post leaves the state
unfoldable pub takes : ℕ → List ℕ → List ℕ → Bool
takes rows form text =
    let w = after rows form in
    let p = posted_to rows w 0 text in
    let h = fed rows w text (room rows) in
    eqb p.number 0 && same_state p.world.state w.state
    && same p.world.chars (text ++ drop (length text) w.chars) && same p.world.attrs w.attrs
    && gives rows 0 (length text) [] h && same_memory h.world p.world && types rows w text p.world

-- it refuses the character: 6 to the post and to the key; the host's byte is taken, with no answer of its own; and none of them changes anything
unfoldable pub refuses : ℕ → List ℕ → ℕ → Bool
refuses rows form v =
    let w = after rows form in
    let p = posted_to rows w 0 (v ∷ []) in
    let k = keyed rows w (room rows) v in
    let h = fed rows w (v ∷ []) (room rows) in
    eqb p.number 6 && same_world p.world w && eqb k.number 6 && same_world k.world w && gives rows 0 1 [] h && same_world h.world w

-- ---- clears in inverse video, enhancement 2, in the last row from column 70 on

-- ESC & d B, then the character: it stands in inverse video
abbrev pub inverse : ℕ → List ℕ
inverse v = 27 ∷ 38 ∷ 100 ∷ 66 ∷ v ∷ []

-- a field with ABC, a label N and a field of two blanks, all in inverse video
abbrev pub inverse_form : ℕ → List ℕ
inverse_form rows =
    in_last_row rows (55 ∷ 48 ∷ []) ++ (27 ∷ 91 ∷ []) ++ inverse 65 ++ inverse 66 ++ inverse 67 ++ (27 ∷ 93 ∷ 32 ∷ [])
    ++ inverse 78 ++ (27 ∷ 91 ∷ []) ++ inverse 32 ++ inverse 32 ++ (27 ∷ 93 ∷ [])

-- a memory of v with these cells there
unfoldable pub laid : ℕ → ℕ → List ℕ → List ℕ
laid rows v xs = replicate (rows * 80 - 10) v ++ (xs ++ replicate (10 - length xs) v)

-- the memory holds these characters and attributes there, and nothing else
unfoldable pub holds_only : ℕ → List ℕ → List ℕ → World → Bool
holds_only rows chars attrs w = same w.chars (laid rows 32 chars) && same w.attrs (laid rows 0 attrs)

-- from w and these host bytes on, ESC with the letter and the key both leave this alone in the memory, and the state stays
unfoldable pub clears : ℕ → World → List ℕ → ℕ → ℕ → List ℕ → List ℕ → Bool
clears rows w bytes letter code chars attrs =
    let v = (fed rows w bytes (room rows)).world in
    let h = fed rows v (27 ∷ letter ∷ []) (room rows) in
    let k = keyed rows v (room rows) code in
    gives rows 0 2 [] h && same_state h.world.state v.state && holds_only rows chars attrs h.world
    && eqb k.number 0 && same_world k.world h.world

-- ---- the rows that changed, since a report

-- the terminal after a report
unfoldable pub reported_on : ℕ → World → World
reported_on rows w = stated w (reported rows w.state).state

-- of `rows` rows those that are listed
unfoldable pub listed_rows : ℕ → List ℕ → List Bool
listed_rows rows [] = replicate rows false
listed_rows rows (r ∷ rs) = set (listed_rows rows rs) r true

-- exactly the rows that are listed are set, the first of them first, and a report tells so
unfoldable pub tells : ℕ → List ℕ → World → Bool
tells rows rs w =
    let r = reported rows w.state in
    same_stops (rows_of rows w.state.changes) (listed_rows rows rs)
    && eqb r.number 0 && eqb r.count (length rs) && eqb r.first (get_or rs 0 rows)

-- after these host bytes, a report and those
unfoldable pub later : ℕ → List ℕ → List ℕ → World
later rows bytes more = (fed rows (reported_on rows (after rows bytes)) more (room rows)).world

-- ---- the cases, in the document's order
unfoldable pub document_cases : ℕ → List Bool
document_cases rows =
    -- empty stream: nothing taken, nothing written, nothing changed
    (let h = fed rows (start rows) [] (room rows) in gives rows 0 0 [] h && same_world h.world (start rows))
    -- absolute cursor at row 5, column 12: 1B 26 61 30 31 32 63 30 30 35 52 0D; the memory is unchanged and nothing is pending any more
    ∷ (let h = fed rows (start rows) (27 ∷ 38 ∷ 97 ∷ 53 ∷ 114 ∷ 49 ∷ 50 ∷ 67 ∷ 27 ∷ 97 ∷ 17 ∷ []) (room rows) in
    gives rows 0 11 (27 ∷ 38 ∷ 97 ∷ 48 ∷ 49 ∷ 50 ∷ 99 ∷ 48 ∷ 48 ∷ 53 ∷ 82 ∷ 13 ∷ []) h
    && stands_at 5 12 0 h.world && eqb h.world.state.pending 0 && same_memory h.world (start rows))
    -- ESC & a - 1 C at column 0 stays there
    ∷ (let h = fed rows (start rows) (27 ∷ 38 ∷ 97 ∷ 45 ∷ 49 ∷ 67 ∷ []) (room rows) in gives rows 0 6 [] h && same_world h.world (start rows))
    -- ESC & a 200 C gives 79
    ∷ (let h = fed rows (start rows) (27 ∷ 38 ∷ 97 ∷ 50 ∷ 48 ∷ 48 ∷ 67 ∷ []) (room rows) in gives rows 0 7 [] h && stands_at 0 79 0 h.world && same_memory h.world (start rows))
    -- line feed at the last row, format off: all rows with attributes move up, the last becomes blank with attributes 0, the cursor stays
    ∷ (let w = after rows (27 ∷ 91 ∷ last_row rows) in
    let v = after rows ((27 ∷ 91 ∷ last_row rows) ++ (10 ∷ [])) in
    same_state v.state w.state && stands_at (rows - 1) 1 (rows - 24) v
    && same v.chars (set (replicate (rows * 80) 32) ((rows - 2) * 80) 66) && same v.attrs (replicate (rows * 80) 0) && same w.attrs (set (replicate (rows * 80) 0) 0 1))
    -- line feed at the last row, format on: nothing
    ∷ (let w = after rows (last_row rows ++ (27 ∷ 87 ∷ [])) in let v = after rows (last_row rows ++ (27 ∷ 87 ∷ 10 ∷ [])) in stands_at (rows - 1) 1 (rows - 24) v && same_world v w)
    -- five letters into four cells: 10, and nothing changes
    ∷ (let w = after rows four_cells in let p = posted_to rows w 0 (65 ∷ 66 ∷ 67 ∷ 68 ∷ 69 ∷ []) in eqb p.number 10 && same_world p.world w)
    -- `A1` into a digits field: 6, and nothing changes
    ∷ (let w = after rows digits_form in let p = posted_to rows w 0 (65 ∷ 49 ∷ []) in eqb p.number 6 && same_world p.world w)
    -- `T17`: the text and a blank in the field's four cells, nothing else changes, and the cursor stays
    ∷ (let w = after rows four_cells in
    let p = posted_to rows w 0 (84 ∷ 49 ∷ 55 ∷ []) in
    eqb p.number 0 && same_state p.world.state w.state && stands_at 0 4 0 p.world
    && same p.world.chars (84 ∷ 49 ∷ 55 ∷ 32 ∷ drop 4 w.chars) && same p.world.attrs w.attrs)
    -- typing in an only field of one cell returns the cursor to it
    ∷ (let w = after rows one_cell in
    let k = keyed rows w (room rows) 262 in
    let x = keyed rows k.world (room rows) 88 in
    eqb k.number 0 && stands_at 3 7 0 k.world && eqb x.number 0 && stands_at 3 7 0 x.world
    && same x.world.chars (set (replicate (rows * 80) 32) 247 88) && same x.world.attrs w.attrs)
    -- a key after ENTER: ENTER answers 0 and sends 18, the key 4 and changes nothing
    ∷ (let e = keyed rows (start rows) (room rows) 273 in
    let x = keyed rows e.world (room rows) 88 in
    eqb e.number 0 && eqb e.written 1 && same e.reply (18 ∷ drop 1 (room rows)) && eqb x.number 4 && eqb x.written 0 && same_world x.world e.world)
    -- block with format on and no field: one byte, 30
    ∷ (let h = fed rows (start rows) (27 ∷ 87 ∷ 27 ∷ 100 ∷ 17 ∷ []) (room rows) in gives rows 0 5 (30 ∷ []) h && same_memory h.world (start rows))
    ∷ []

-- ---- weights
unfoldable pub weight_cases : ℕ → List Bool
weight_cases rows =
    -- a digits field takes the weights `-12,5` and `+12.5`
    takes rows digits_form (45 ∷ 49 ∷ 50 ∷ 44 ∷ 53 ∷ [])
    ∷ takes rows digits_form (43 ∷ 49 ∷ 50 ∷ 46 ∷ 53 ∷ [])
    -- it refuses `A`, and the neighbours of the signs and of the digits, `*`, `/` and `:`
    ∷ refuses rows digits_form 65
    ∷ refuses rows digits_form 42
    ∷ refuses rows digits_form 47
    ∷ refuses rows digits_form 58
    -- a letters field takes letters and blanks, `AZ az`, and refuses `,`
    ∷ takes rows letters_form (65 ∷ 90 ∷ 32 ∷ 97 ∷ 122 ∷ [])
    ∷ refuses rows letters_form 44
    ∷ []

-- ---- clears
unfoldable pub clear_cases : ℕ → List Bool
clear_cases rows =
    let form = after rows (inverse_form rows) in
    -- the form in inverse video: marks 1 and 5 and enhancement 2, as 16 × enhancement + mark
    holds_only rows (65 ∷ 66 ∷ 67 ∷ 32 ∷ 78 ∷ []) (33 ∷ 32 ∷ 32 ∷ 5 ∷ 32 ∷ 33 ∷ 32 ∷ 5 ∷ []) form
    -- clear display in the middle of a field, format on: from the cursor on fields are blank without it, those that were blank too, and keep their marks; the part of the
    -- field before the cursor keeps it, and so does the label
    ∷ clears rows form (27 ∷ 87 ∷ in_last_row rows (55 ∷ 49 ∷ [])) 74 264 (65 ∷ 32 ∷ 32 ∷ 32 ∷ 78 ∷ []) (33 ∷ 0 ∷ 0 ∷ 5 ∷ 32 ∷ 1 ∷ 0 ∷ 5 ∷ [])
    -- clear line there: to the field's end, and the other field keeps it
    ∷ clears rows form (27 ∷ 87 ∷ in_last_row rows (55 ∷ 49 ∷ [])) 75 265 (65 ∷ 32 ∷ 32 ∷ 32 ∷ 78 ∷ []) (33 ∷ 0 ∷ 0 ∷ 5 ∷ 32 ∷ 33 ∷ 32 ∷ 5 ∷ [])
    -- at the field's start its mark stays
    ∷ clears rows form (27 ∷ 87 ∷ in_last_row rows (55 ∷ 48 ∷ [])) 75 265 (32 ∷ 32 ∷ 32 ∷ 32 ∷ 78 ∷ []) (1 ∷ 0 ∷ 0 ∷ 5 ∷ 32 ∷ 33 ∷ 32 ∷ 5 ∷ [])
    -- on the label clear line does nothing
    ∷ clears rows form (27 ∷ 87 ∷ in_last_row rows (55 ∷ 52 ∷ [])) 75 265 (65 ∷ 66 ∷ 67 ∷ 32 ∷ 78 ∷ []) (33 ∷ 32 ∷ 32 ∷ 5 ∷ 32 ∷ 33 ∷ 32 ∷ 5 ∷ [])
    -- format off, clear display: from the cursor on marks and the label go too
    ∷ clears rows form (in_last_row rows (55 ∷ 49 ∷ [])) 74 264 (65 ∷ []) (33 ∷ [])
    ∷ []

-- ---- the last places of the memory and of the window
unfoldable pub place_cases : ℕ → List Bool
place_cases rows =
    -- ESC & a 200 R gives the last row, and the window's last top shows it
    (let h = fed rows (start rows) (27 ∷ 38 ∷ 97 ∷ 50 ∷ 48 ∷ 48 ∷ 82 ∷ []) (room rows) in
    gives rows 0 7 [] h && stands_at (rows - 1) 0 (rows - 24) h.world && same_memory h.world (start rows))
    -- four next pages, ESC U, give that top
    ∷ (let v = after rows (27 ∷ 85 ∷ 27 ∷ 85 ∷ 27 ∷ 85 ∷ 27 ∷ 85 ∷ []) in stands_at (rows - 24) 0 (rows - 24) v && same_memory v (start rows))
    -- from the last cell right, ESC C, does not move
    ∷ (let w = after rows (in_last_row rows (55 ∷ 57 ∷ [])) in let h = fed rows w (27 ∷ 67 ∷ []) (room rows) in stands_at (rows - 1) 79 (rows - 24) w && gives rows 0 2 [] h && same_world h.world w)
    -- text in the last cell, format off: written there, then all rows move up, and the cursor is at column 0
    ∷ (let v = after rows (in_last_row rows (55 ∷ 57 ∷ []) ++ (88 ∷ [])) in
    stands_at (rows - 1) 0 (rows - 24) v && same v.chars (set (replicate (rows * 80) 32) ((rows - 1) * 80 - 1) 88) && same v.attrs (replicate (rows * 80) 0))
    -- an only field, of the last cell: from the first cell tab goes to it, a post fills it, and the block sends it
    ∷ (let w = after rows (in_last_row rows (55 ∷ 57 ∷ []) ++ (27 ∷ 91 ∷ 27 ∷ 87 ∷ 27 ∷ 38 ∷ 97 ∷ 48 ∷ 114 ∷ 48 ∷ 67 ∷ [])) in
    let k = keyed rows w (room rows) 262 in
    let p = posted_to rows k.world 0 (88 ∷ []) in
    let h = fed rows p.world (27 ∷ 100 ∷ 17 ∷ []) (room rows) in
    stands_at 0 0 0 w && eqb k.number 0 && stands_at (rows - 1) 79 (rows - 24) k.world
    && eqb p.number 0 && same p.world.chars (set (replicate (rows * 80) 32) (rows * 80 - 1) 88) && gives rows 0 3 (88 ∷ 30 ∷ []) h)
    ∷ []

-- ---- the rows that changed
unfoldable pub change_cases : ℕ → List Bool
change_cases rows =
    -- a fresh terminal has all rows set, the first is 0; after a report none is, and the first is the number of rows
    (let r = reported rows (start rows).state in eqb r.number 0 && eqb r.count rows && eqb r.first 0 && tells rows [] (reported_on rows (start rows)))
    -- A sets its row; typed there again, after home, it sets nothing
    ∷ tells rows (0 ∷ []) (later rows [] (65 ∷ []))
    ∷ tells rows [] (later rows (65 ∷ []) (27 ∷ 72 ∷ 65 ∷ []))
    -- a byte that changes a row and one that changes it back set it: A, backspace, blank
    ∷ tells rows (0 ∷ []) (later rows [] (65 ∷ 8 ∷ 32 ∷ []))
    -- line feed at the last row, A in the first and B in the last: those two and the last but one change, no other
    ∷ tells rows (0 ∷ (rows - 2) ∷ (rows - 1) ∷ []) (later rows (last_row rows) (10 ∷ []))
    -- text at the last cell of a blank memory is written and moves up by a row: the last but one alone changes
    ∷ tells rows ((rows - 2) ∷ []) (later rows (in_last_row rows (55 ∷ 57 ∷ [])) (88 ∷ []))
    -- a post sets its field's row, the same post again nothing, and a refused one nothing
    ∷ (let w = reported_on rows (after rows one_cell) in
    let p = (posted_to rows w 0 (88 ∷ [])).world in
    tells rows (3 ∷ []) p && tells rows [] (posted_to rows (reported_on rows p) 0 (88 ∷ [])).world && tells rows [] (posted_to rows w 1 (88 ∷ [])).world)
    -- so does a text key, and a tab sets nothing
    ∷ (let w = reported_on rows (after rows one_cell) in
    let k = (keyed rows w (room rows) 262).world in
    tells rows [] k && tells rows (3 ∷ []) (keyed rows k (room rows) 88).world)
    -- a hard reset keeps the row that B set since the report, and adds that of A, which it clears
    ∷ tells rows (0 ∷ 5 ∷ []) (later rows (65 ∷ []) (27 ∷ 38 ∷ 97 ∷ 53 ∷ 82 ∷ 66 ∷ 27 ∷ 69 ∷ []))
    ∷ []

-- ---- all of them, in one list
unfoldable pub cases : ℕ → List Bool
cases rows = document_cases rows ++ (weight_cases rows ++ (clear_cases rows ++ (place_cases rows ++ change_cases rows)))

-- the places of the cases that fail
unfoldable pub failing : ℕ → List Bool → List ℕ
failing i [] = []
failing i (b ∷ bs) = cond b (failing (i + 1) bs) (i ∷ failing (i + 1) bs)

-- no case fails
abbrev pub CasesHold : ℕ → Type 0
CasesHold rows = failing 0 (cases rows) ≡ []
