-- The actions that a host byte can ask for, numbered. Assumes nothing.
use Rattle.std.specs.Prelude.{ℕ}
use Rattle.reading.specs.declared.action.Action.{Action}
use Rattle.reading.specs.declared.action.Action.TheVariants.{Rest, Esc, Ack, Left, Tab, LineFeed, Column0, Trigger, Text, Up, Down, Right, Home, HomeAll, HomeDown, BackTab, ClearDisplay, ClearLine, InsertRow, DeleteRow, DeleteChar, InsertOn, InsertOff, RollUp, RollDown, NextPage, PrevPage, FormatOn, FormatOff, SetTab, ClearTab, ClearTabs, Mark1, Mark4, Mark5, Turn2, Turn3, Turn1, AskAbsolute, AskWindow, AskStatus, AskBlock, LockOff, LockOn, SoftReset, HardReset, ToGroup, ToSet, ToCursor, ToEnhance, ToOther, Plus, Minus, Digit, ColumnOn, ColumnEnd, RowOn, RowEnd, WindowOn, WindowEnd, Stay, Enhance}

abbrev pub rest : ℕ
rest = 0

abbrev pub esc : ℕ
esc = 1

abbrev pub ack : ℕ
ack = 2

abbrev pub left : ℕ
left = 3

abbrev pub tab : ℕ
tab = 4

abbrev pub line_feed : ℕ
line_feed = 5

abbrev pub column0 : ℕ
column0 = 6

abbrev pub trigger : ℕ
trigger = 7

abbrev pub text : ℕ
text = 8

abbrev pub up : ℕ
up = 9

abbrev pub down : ℕ
down = 10

abbrev pub right : ℕ
right = 11

abbrev pub home : ℕ
home = 12

abbrev pub home_all : ℕ
home_all = 13

abbrev pub home_down : ℕ
home_down = 14

abbrev pub back_tab : ℕ
back_tab = 15

abbrev pub clear_display : ℕ
clear_display = 16

abbrev pub clear_line : ℕ
clear_line = 17

abbrev pub insert_row : ℕ
insert_row = 18

abbrev pub delete_row : ℕ
delete_row = 19

abbrev pub delete_char : ℕ
delete_char = 20

abbrev pub insert_on : ℕ
insert_on = 21

abbrev pub insert_off : ℕ
insert_off = 22

abbrev pub roll_up : ℕ
roll_up = 23

abbrev pub roll_down : ℕ
roll_down = 24

abbrev pub next_page : ℕ
next_page = 25

abbrev pub prev_page : ℕ
prev_page = 26

abbrev pub format_on : ℕ
format_on = 27

abbrev pub format_off : ℕ
format_off = 28

abbrev pub set_tab : ℕ
set_tab = 29

abbrev pub clear_tab : ℕ
clear_tab = 30

abbrev pub clear_tabs : ℕ
clear_tabs = 31

abbrev pub mark1 : ℕ
mark1 = 32

abbrev pub mark4 : ℕ
mark4 = 33

abbrev pub mark5 : ℕ
mark5 = 34

abbrev pub turn2 : ℕ
turn2 = 35

abbrev pub turn3 : ℕ
turn3 = 36

abbrev pub turn1 : ℕ
turn1 = 37

abbrev pub ask_absolute : ℕ
ask_absolute = 38

abbrev pub ask_window : ℕ
ask_window = 39

abbrev pub ask_status : ℕ
ask_status = 40

abbrev pub ask_block : ℕ
ask_block = 41

abbrev pub lock_off : ℕ
lock_off = 42

abbrev pub lock_on : ℕ
lock_on = 43

abbrev pub soft_reset : ℕ
soft_reset = 44

abbrev pub hard_reset : ℕ
hard_reset = 45

abbrev pub to_group : ℕ
to_group = 46

abbrev pub to_set : ℕ
to_set = 47

abbrev pub to_cursor : ℕ
to_cursor = 48

abbrev pub to_enhance : ℕ
to_enhance = 49

abbrev pub to_other : ℕ
to_other = 50

abbrev pub plus : ℕ
plus = 51

abbrev pub minus : ℕ
minus = 52

abbrev pub digit : ℕ
digit = 53

abbrev pub column_on : ℕ
column_on = 54

abbrev pub column_end : ℕ
column_end = 55

abbrev pub row_on : ℕ
row_on = 56

abbrev pub row_end : ℕ
row_end = 57

abbrev pub window_on : ℕ
window_on = 58

abbrev pub window_end : ℕ
window_end = 59

abbrev pub stay : ℕ
stay = 60

abbrev pub enhance : ℕ
enhance = 61

-- the number of an action of the code
abbrev pub number_of : Action → ℕ
number_of Rest = rest
number_of Esc = esc
number_of Ack = ack
number_of Left = left
number_of Tab = tab
number_of LineFeed = line_feed
number_of Column0 = column0
number_of Trigger = trigger
number_of Text = text
number_of Up = up
number_of Down = down
number_of Right = right
number_of Home = home
number_of HomeAll = home_all
number_of HomeDown = home_down
number_of BackTab = back_tab
number_of ClearDisplay = clear_display
number_of ClearLine = clear_line
number_of InsertRow = insert_row
number_of DeleteRow = delete_row
number_of DeleteChar = delete_char
number_of InsertOn = insert_on
number_of InsertOff = insert_off
number_of RollUp = roll_up
number_of RollDown = roll_down
number_of NextPage = next_page
number_of PrevPage = prev_page
number_of FormatOn = format_on
number_of FormatOff = format_off
number_of SetTab = set_tab
number_of ClearTab = clear_tab
number_of ClearTabs = clear_tabs
number_of Mark1 = mark1
number_of Mark4 = mark4
number_of Mark5 = mark5
number_of Turn2 = turn2
number_of Turn3 = turn3
number_of Turn1 = turn1
number_of AskAbsolute = ask_absolute
number_of AskWindow = ask_window
number_of AskStatus = ask_status
number_of AskBlock = ask_block
number_of LockOff = lock_off
number_of LockOn = lock_on
number_of SoftReset = soft_reset
number_of HardReset = hard_reset
number_of ToGroup = to_group
number_of ToSet = to_set
number_of ToCursor = to_cursor
number_of ToEnhance = to_enhance
number_of ToOther = to_other
number_of Plus = plus
number_of Minus = minus
number_of Digit = digit
number_of ColumnOn = column_on
number_of ColumnEnd = column_end
number_of RowOn = row_on
number_of RowEnd = row_end
number_of WindowOn = window_on
number_of WindowEnd = window_end
number_of Stay = stay
number_of Enhance = enhance
