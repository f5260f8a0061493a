mod AsBox
mod BoxPartsSteps
mod Opened
mod PageSteps
mod RangeLemmas
