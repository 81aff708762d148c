-- Each refusal in words: what is wrong, and what to mend.
use Rattle.std.specs.Prelude.{ℕ, List, codes}
use Rattle.terms.specs.declared.refusal.Refusal.{Refusal}
use Rattle.terms.specs.declared.refusal.Refusal.TheVariants.{Fineness, Full, Missing, TooHigh, BadName, Already, NoLines, NoRoom, OutOfOrder, BrokenRule, BadRoot, Unfit, BadText, NoMemory}

abbrev pub words : Refusal → List ℕ
words Fineness = codes "the fineness is outside 1 to 1000: choose one within"
words Full = codes "there are as many as there may be: do without it, or begin another book or question"
words Missing = codes "a number cites nothing that stands: enter that first, or cite another"
words TooHigh = codes "a degree is above the fineness or the top: lower it"
words BadName = codes "that is no name: use 1 to 12 letters, digits or hyphens"
words Already = codes "it is there already, or struck already: leave it, or change it"
words NoLines = codes "the question has no lines: enter one"
words NoRoom = codes "the store is too short, or the sheet has 1,024 entries: lend more room, or draw up a shorter one"
words OutOfOrder = codes "the line is not above the entry's last, or its bound is outside -1 to 4,000: sort the lines, or mend the bound"
words BrokenRule = codes "an entry breaks a rule of its kind: mend that entry"
words BadRoot = codes "the root is no entry, or does not fit the question: name another, or mend its lines"
words Unfit = codes "the holding is not fit for the book, or a standing sheet has over 64 entries: take another scale or size"
words BadText = codes "the text is not as it would be written here: mend that line"
words NoMemory = codes "no memory was to be had: nothing has changed, so try again"
