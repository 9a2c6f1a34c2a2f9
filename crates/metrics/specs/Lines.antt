-- Lines of the text format of Prometheus, version 0.0.4.
use Rattle.std.specs.Prelude.{ℕ, ◌==◌, List, [], ◌∷◌, ◌++◌, codes, decimal, if◌then◌else◌}
use Rattle.std.specs.List.{flat_map}

-- between quotation marks a backslash, a quotation mark and a line feed stand behind a backslash
abbrev pub escaped_byte : ℕ → List ℕ
escaped_byte byte =
    if byte == 92 then 92 ∷ 92 ∷ []
    else (if byte == 34 then 92 ∷ 34 ∷ []
    else (if byte == 10 then 92 ∷ 110 ∷ [] else byte ∷ []))

-- a label: its name, and what it says
unfoldable pub label_text : List ℕ → List ℕ → List ℕ
label_text label says = label ++ codes "=\"" ++ flat_map escaped_byte says ++ codes "\""

-- the two lines that stand before the numbers of a name
unfoldable pub family_text : List ℕ → List ℕ → List ℕ → List ℕ
family_text name kind help = codes "# HELP " ++ name ++ codes " " ++ help ++ codes "\n# TYPE " ++ name ++ codes " " ++ kind ++ codes "\n"

-- a number without labels
unfoldable pub plain_line : List ℕ → ℕ → List ℕ
plain_line name value = name ++ codes " " ++ decimal value ++ codes "\n"

-- a number with a label
unfoldable pub labelled_line : List ℕ → List ℕ → List ℕ → ℕ → List ℕ
labelled_line name label says value = name ++ codes "{" ++ label_text label says ++ codes "} " ++ decimal value ++ codes "\n"
