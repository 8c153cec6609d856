-- The keywords of the tree diagram in document 000, by name and by number. Shorter names come first, because a name is
-- looked up by its length. The number of a keyword is its index in the list. Any other name is "not of 000", even one
-- that 000 uses in passing (K9).
-- Assumes nothing.
use Rattle.std.specs.Prelude.{ℕ, zero, suc, Bool, List, [], ◌∷◌, map, eqb}
use Rattle.base.specs.If.{provided◌then◌else◌, either}
use Rattle.base.specs.Bytes.{bytes, small}
use Rattle.base.specs.Runs.{same}

-- a byte of a keyword as it is compared: "one space or underscore, which are equal; case does not count"
unfoldable pub folded : ℕ → ℕ
folded b = provided eqb b 95 then 32 else small b

unfoldable pub same_name : List ℕ → List ℕ → Bool
same_name a b = same (map folded a) (map folded b)

abbrev pub names : List (List ℕ)
names =
    bytes "End" ∷
    bytes "Row" ∷
    bytes "Date" ∷
    bytes "Notes" ∷
    bytes "Source" ∷
    bytes "Support" ∷
    bytes "ICM Ver" ∷
    bytes "File Rev" ∷
    bytes "File Name" ∷
    bytes "Copyright" ∷
    bytes "Bandwidth" ∷
    bytes "Frequency" ∷
    bytes "Disclaimer" ∷
    bytes "End Header" ∷
    bytes "ICM Pin Map" ∷
    bytes "Begin Header" ∷
    bytes "Manufacturer" ∷
    bytes "Comment Char" ∷
    bytes "ICM Node Map" ∷
    bytes "End ICM Model" ∷
    bytes "ICM Model List" ∷
    bytes "End ICM Family" ∷
    bytes "Redistribution" ∷
    bytes "Begin ICM Model" ∷
    bytes "End ICM Section" ∷
    bytes "ICM S-parameter" ∷
    bytes "Begin ICM Family" ∷
    bytes "Derivation Method" ∷
    bytes "Resistance Matrix" ∷
    bytes "Inductance Matrix" ∷
    bytes "Begin ICM Section" ∷
    bytes "Conductance Matrix" ∷
    bytes "Capacitance Matrix" ∷
    bytes "Redistribution Text" ∷
    bytes "ICM Swath Parameters" ∷
    bytes "Tree Path Description" ∷
    bytes "ICM Model Description" ∷
    bytes "ICM Swath Pin Numbers" ∷
    bytes "ICM Family Description" ∷
    bytes "Nodal Path Description" ∷
    []

-- the index of the first name that is the same; if none is, the length of the list
unfoldable pub name_index : List ℕ → List (List ℕ) → ℕ
name_index a [] = zero
name_index a (n ∷ ns) = provided same_name a n then zero else suc (name_index a ns)

-- the number of the keyword with this name; `unknown` for a "keyword not of 000"
unfoldable pub keyword_of : List ℕ → ℕ
keyword_of a = name_index a names

abbrev pub unknown : ℕ
unknown = 40

abbrev pub the_end : ℕ
the_end = 0

abbrev pub row : ℕ
row = 1

abbrev pub date : ℕ
date = 2

abbrev pub notes : ℕ
notes = 3

abbrev pub source : ℕ
source = 4

abbrev pub support : ℕ
support = 5

abbrev pub icm_ver : ℕ
icm_ver = 6

abbrev pub file_rev : ℕ
file_rev = 7

abbrev pub file_name : ℕ
file_name = 8

abbrev pub copyright : ℕ
copyright = 9

abbrev pub bandwidth : ℕ
bandwidth = 10

abbrev pub frequency : ℕ
frequency = 11

abbrev pub disclaimer : ℕ
disclaimer = 12

abbrev pub end_header : ℕ
end_header = 13

abbrev pub icm_pin_map : ℕ
icm_pin_map = 14

abbrev pub begin_header : ℕ
begin_header = 15

abbrev pub manufacturer : ℕ
manufacturer = 16

abbrev pub comment_char : ℕ
comment_char = 17

abbrev pub icm_node_map : ℕ
icm_node_map = 18

abbrev pub end_icm_model : ℕ
end_icm_model = 19

abbrev pub icm_model_list : ℕ
icm_model_list = 20

abbrev pub end_icm_family : ℕ
end_icm_family = 21

abbrev pub redistribution : ℕ
redistribution = 22

abbrev pub begin_icm_model : ℕ
begin_icm_model = 23

abbrev pub end_icm_section : ℕ
end_icm_section = 24

abbrev pub icm_sParameter : ℕ
icm_sParameter = 25

abbrev pub begin_icm_family : ℕ
begin_icm_family = 26

abbrev pub derivation_method : ℕ
derivation_method = 27

abbrev pub resistance_matrix : ℕ
resistance_matrix = 28

abbrev pub inductance_matrix : ℕ
inductance_matrix = 29

abbrev pub begin_icm_section : ℕ
begin_icm_section = 30

abbrev pub conductance_matrix : ℕ
conductance_matrix = 31

abbrev pub capacitance_matrix : ℕ
capacitance_matrix = 32

abbrev pub redistribution_text : ℕ
redistribution_text = 33

abbrev pub icm_swath_parameters : ℕ
icm_swath_parameters = 34

abbrev pub tree_path_description : ℕ
tree_path_description = 35

abbrev pub icm_model_description : ℕ
icm_model_description = 36

abbrev pub icm_swath_pin_numbers : ℕ
icm_swath_pin_numbers = 37

abbrev pub icm_family_description : ℕ
icm_family_description = 38

abbrev pub nodal_path_description : ℕ
nodal_path_description = 39

-- "Later: [Comment Char], [Nodal Path Description], [ICM Node Map], [ICM Swath Parameters], [ICM Swath Pin Numbers],
-- [Frequency], [ICM S-parameter]"
unfoldable pub is_later : ℕ → Bool
is_later k =
    either (eqb k comment_char)
    (either (eqb k nodal_path_description)
    (either (eqb k icm_node_map)
    (either (eqb k icm_swath_parameters) (either (eqb k icm_swath_pin_numbers) (either (eqb k frequency) (eqb k icm_sParameter))))))
